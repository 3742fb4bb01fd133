-- The lines of a plan file without their places.
use Rattle.std.specs.Prelude.{◌≡◌, map}
use Rattle.sq_ast.specs.Unplaced.{nowhere, bare_variant}
use Rattle.sq_plantext.specs.Grammar.{name_at}
use Rattle.sq_plantext.specs.declared.text.BufferLine.{BufferLine}
use Rattle.sq_plantext.specs.declared.text.LeafText.{LeafText}
use Rattle.sq_plantext.specs.declared.text.ArrayLine.{ArrayLine}
use Rattle.sq_plantext.specs.declared.text.TermText.{TermText}
use Rattle.sq_plantext.specs.declared.text.TermText.TheVariants as text
use Rattle.sq_plantext.specs.declared.text.TermText.TheOpen.{TermText-F}
use Rattle.sq_plantext.specs.declared.text.TermText.TheFolds.{fold-TermText}
use Rattle.sq_plantext.specs.declared.text.PlanText.{PlanText}

abbrev pub unplaced_buffer : BufferLine → BufferLine
unplaced_buffer b = record {
  place = nowhere;
  level = b.level;
  offset = b.offset;
  size = b.size;
  instance = b.instance;
  array = b.array;
}

abbrev pub unplaced_leaf : LeafText → LeafText
unplaced_leaf l = record {
  place = nowhere;
  instance = l.instance;
  numbers = l.numbers;
  task = bare_variant l.task;
}

abbrev pub unplaced_array : ArrayLine → ArrayLine
unplaced_array a = record {
  mode = a.mode;
  elem = a.elem;
  name = name_at nowhere a.name.name;
  extents = a.extents;
  buffer = a.buffer;
}

abbrev pub unplaced_step : TermText-F TermText → TermText
unplaced_step (TermText-F.Seq parts) = text.Seq parts
unplaced_step (TermText-F.Par parts) = text.Par parts
unplaced_step (TermText-F.At place node buffers body) = text.At nowhere node buffers body
unplaced_step (TermText-F.Act place e) = text.Act nowhere e

abbrev pub unplaced_term : TermText → TermText
unplaced_term = fold-TermText TermText unplaced_step

abbrev pub unplaced : PlanText → PlanText
unplaced x = record {
  nodes = x.nodes;
  buffers = map unplaced_buffer x.buffers;
  leaves = map unplaced_leaf x.leaves;
  arrays = map unplaced_array x.arrays;
  term = unplaced_term x.term;
}

-- the same lines, but for their places
abbrev pub AreSame : PlanText → PlanText → Type 0
AreSame x y = unplaced x ≡ unplaced y
