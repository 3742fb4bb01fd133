use Rattle.std.proofs.Common.{◌≡◌, ◌++◌, map, drop}
use Rattle.sq_ir.specs.Lifting.{lift}
use Rattle.sq_contexts.proofs.places.lift_nums.Given as goal

abbrev pub invariant-loop-num : goal.invariant-loop-num
invariant-loop-num l = l.out.items ++ map (lift 1) (drop l.num-index l.nums) ≡ map (lift 1) l.nums
