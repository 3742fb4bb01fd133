use Rattle.std.proofs.Common.{◌≡◌, ◌++◌, map, drop}
use Rattle.sq_planlines.specs.Narrow.{buffer_of}
use Rattle.sq_planlines.proofs.lines.buffers_of.Given as goal

abbrev pub invariant-loop-line : goal.invariant-loop-line
invariant-loop-line l = l.buffers ++ map buffer_of (drop l.line-index l.lines) ≡ map buffer_of l.lines
