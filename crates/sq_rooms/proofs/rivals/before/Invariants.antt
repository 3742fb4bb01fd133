use Rattle.sq_ir.specs.Plans.{setting_of}
use Rattle.sq_rooms.proofs.Backwards.{IsBefore}
use Rattle.sq_rooms.proofs.rivals.before.Given as goal

abbrev pub invariant-loop-i : goal.invariant-loop-i
invariant-loop-i l = IsBefore (setting_of l.plan) l.later l.fn.found l.names l.i l.start l.best

abbrev pub decreases-loop-i : goal.decreases-loop-i
decreases-loop-i l = l.i
