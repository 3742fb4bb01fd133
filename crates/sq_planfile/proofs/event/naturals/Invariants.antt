use Rattle.std.proofs.Common.{◌≡◌, ◌++◌, drop}
use Rattle.sq_planfile.proofs.event.naturals.Given as goal

abbrev pub invariant-loop-number : goal.invariant-loop-number
invariant-loop-number l = l.naturals ++ drop l.number-index l.numbers ≡ l.numbers
