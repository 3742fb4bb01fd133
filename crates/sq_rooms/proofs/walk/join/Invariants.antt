use Rattle.std.proofs.Common.{◌≡◌, ◌++◌, length}
use Rattle.sq_rooms.specs.Lists.{joined}
use Rattle.sq_rooms.proofs.walk.join.Given as goal

abbrev pub invariant-loop-list : goal.invariant-loop-list
invariant-loop-list l = l.names ++ joined l.left ≡ l.fn.names ++ joined l.fn.lists

abbrev pub decreases-loop-list : goal.decreases-loop-list
decreases-loop-list l = length l.left
