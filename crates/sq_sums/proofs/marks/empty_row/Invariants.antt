use Rattle.std.proofs.Common.{◌≡◌, replicate, false}
use Rattle.sq_sums.proofs.marks.empty_row.Given as goal

abbrev pub invariant-loop-made : goal.invariant-loop-made
invariant-loop-made l = l.row ≡ replicate l._made false
