use Rattle.std.proofs.Common.{◌≡◌, ◌++◌, drop}
use Rattle.sq_race.specs.Selection.{those, is_within}
use Rattle.sq_race.proofs.taken.of_calls.Given as goal

abbrev pub invariant-loop-number : goal.invariant-loop-number
invariant-loop-number l = l.kept.items ++ those (is_within l.calls) l.uses (drop l.number-index l.numbers) ≡ those (is_within l.calls) l.uses l.numbers
