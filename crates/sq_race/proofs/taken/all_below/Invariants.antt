use Rattle.std.proofs.Common.{◌≡◌}
use Rattle.sq_race.specs.Selection.{all_below}
use Rattle.sq_race.proofs.taken.all_below.Given as goal

abbrev pub invariant-loop-number : goal.invariant-loop-number
invariant-loop-number l = l.numbers.items ≡ all_below l.number
