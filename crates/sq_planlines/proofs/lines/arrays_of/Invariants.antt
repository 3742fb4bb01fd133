use Rattle.std.proofs.Common.{◌≡◌, ◌++◌, map, drop}
use Rattle.sq_planlines.specs.Narrow.{array_of}
use Rattle.sq_planlines.proofs.lines.arrays_of.Given as goal

abbrev pub invariant-loop-line : goal.invariant-loop-line
invariant-loop-line l = l.arrays ++ map array_of (drop l.line-index l.lines) ≡ map array_of l.lines
