use Rattle.std.proofs.Common.{◌≡◌, replicate, suc, false}
use Rattle.sq_sums.proofs.marks.empty_marks.Given as goal

abbrev pub invariant-loop-made : goal.invariant-loop-made
invariant-loop-made l = l.marks.items ≡ replicate l._made (replicate (suc l.fan) false)
