use Rattle.std.proofs.Common.{◌≡◌, replicate}
use Rattle.sq_sums.proofs.sums.zeros.Given as goal

abbrev pub invariant-loop-made : goal.invariant-loop-made
invariant-loop-made l = l.sums ≡ replicate l._made 0
