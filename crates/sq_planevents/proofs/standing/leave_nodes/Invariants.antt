use Rattle.sq_planevents.proofs.Dropped.{AreFirst}
use Rattle.sq_planevents.proofs.standing.leave_nodes.Given as goal

abbrev pub invariant-loop-left : goal.invariant-loop-left
invariant-loop-left l = AreFirst l.depth l._left l.fn.nodes l.nodes
