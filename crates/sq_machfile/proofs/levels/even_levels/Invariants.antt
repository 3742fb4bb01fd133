use Rattle.std.proofs.Common.{◌≡◌, ◌++◌, drop}
use Rattle.sq_machfile.specs.Machines.{levels_from, levels_of}
use Rattle.sq_machfile.proofs.levels.even_levels.Given as goal

abbrev pub invariant-loop-below : goal.invariant-loop-below
invariant-loop-below l = l.levels ++ levels_from l.above (drop l.below-index l.below-items) ≡ levels_of l.fn.text
