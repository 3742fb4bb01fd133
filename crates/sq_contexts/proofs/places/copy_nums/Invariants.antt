use Rattle.std.proofs.Common.{◌≡◌, ◌++◌, drop}
use Rattle.sq_contexts.proofs.places.copy_nums.Given as goal

abbrev pub invariant-loop-num : goal.invariant-loop-num
invariant-loop-num l = l.out.items ++ drop l.num-index l.nums ≡ l.nums
