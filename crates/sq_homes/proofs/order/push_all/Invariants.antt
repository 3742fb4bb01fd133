use Rattle.std.proofs.Common.{◌≡◌, ◌++◌, drop}
use Rattle.sq_homes.proofs.order.push_all.Given as goal

abbrev pub invariant-loop-i : goal.invariant-loop-i
invariant-loop-i l = l.out ++ drop l.i-index l.list ≡ l.fn.out ++ l.list
