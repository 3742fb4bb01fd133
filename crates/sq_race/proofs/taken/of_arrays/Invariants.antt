use Rattle.std.proofs.Common.{◌≡◌, ◌++◌, drop}
use Rattle.sq_race.specs.Selection.{those, is_of}
use Rattle.sq_race.proofs.taken.of_arrays.Given as goal

abbrev pub invariant-loop-number : goal.invariant-loop-number
invariant-loop-number l = l.kept.items ++ those (is_of l.map l.arrays) l.uses (drop l.number-index l.numbers) ≡ those (is_of l.map l.arrays) l.uses l.numbers
