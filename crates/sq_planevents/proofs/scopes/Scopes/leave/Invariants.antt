use Rattle.sq_planevents.proofs.Dropped.{AreFirst}
use Rattle.sq_planevents.proofs.scopes.Scopes.leave.Given as goal

abbrev pub invariant-loop-left : goal.invariant-loop-left
invariant-loop-left l = AreFirst l.count l._left l.fn.self l.self
