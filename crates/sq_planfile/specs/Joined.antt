-- What is left of the lines of a file where they are written out again: their terms joined and without scopes
-- that change nothing, the numbers of leaves in the order of their tasks, and no places.
use Rattle.std.specs.Prelude.{◌≡◌, ℕ, map}
use Rattle.sq_ast.specs.Unplaced.{nowhere}
use Rattle.sq_plantext.specs.Grammar.{name_at}
use Rattle.sq_plantext.specs.declared.text.BufferLine.{BufferLine}
use Rattle.sq_plantext.specs.declared.text.LeafText.{LeafText}
use Rattle.sq_plantext.specs.declared.text.ArrayLine.{ArrayLine}
use Rattle.sq_plantext.specs.declared.text.TermText.{TermText}
use Rattle.sq_plantext.specs.declared.text.TermText.TheVariants as text
use Rattle.sq_plantext.specs.declared.text.TermText.TheOpen.{TermText-F}
use Rattle.sq_plantext.specs.declared.text.TermText.TheFolds.{fold-TermText}
use Rattle.sq_plantext.specs.declared.text.PlanText.{PlanText}
use Rattle.sq_planfile.specs.declared.left.Left.{Left}
use Rattle.sq_planfile.specs.declared.left.Left.TheVariants.{Alone}
use Rattle.sq_planfile.specs.Left.{scope, whole}
use Rattle.sq_planfile.specs.File.{PlanFile}
use Rattle.sq_planfile.specs.Files.{numbers_of, file_of}
use Rattle.sq_planfile.specs.Written.{seq_parts, par_parts, bindings_of, written}
use Rattle.sq_planfile.specs.Sound.{IsSound}

-- where this node is in force
abbrev pub joined_step : TermText-F (ℕ → Left) → (here : ℕ) → Left
joined_step (TermText-F.Seq parts) here = seq_parts parts here
joined_step (TermText-F.Par parts) here = par_parts parts here
joined_step (TermText-F.At place node buffers body) here = scope here node buffers (body node)
joined_step (TermText-F.Act place e) here = Alone (text.Act nowhere e)

abbrev pub joined : TermText → (here : ℕ) → Left
joined = fold-TermText (ℕ → Left) joined_step

abbrev pub bare_buffer : BufferLine → BufferLine
bare_buffer b = record { place = nowhere; level = b.level; offset = b.offset; size = b.size; instance = b.instance; array = b.array }

-- the numbers stand in the order of the task
abbrev pub bare_leaf : LeafText → LeafText
bare_leaf l = record { place = nowhere; instance = l.instance; numbers = bindings_of l.task (numbers_of l); task = l.task }

abbrev pub bare_array : ArrayLine → ArrayLine
bare_array a = record { mode = a.mode; elem = a.elem; name = name_at nowhere a.name.name; extents = a.extents; buffer = a.buffer }

abbrev pub again : PlanText → PlanText
again x = record { nodes = x.nodes; buffers = map bare_buffer x.buffers; leaves = map bare_leaf x.leaves; arrays = map bare_array x.arrays; term = whole (joined x.term 0) }

-- A file that was read is written out as its lines were.
abbrev pub ReadsBack : PlanText → Type 0
ReadsBack x = IsSound x → written (file_of x) ≡ again x

-- What a file is written out as, read and written out again, stays.
abbrev pub StaysWritten : PlanFile → Type 0
StaysWritten f = again (written f) ≡ written f
