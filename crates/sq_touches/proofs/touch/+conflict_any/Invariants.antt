use Rattle.std.proofs.Common.{length}
use Rattle.sq_touches.proofs.touch.+conflict_any.Given as goal

abbrev pub decreases-conflict_any : goal.decreases-conflict_any
decreases-conflict_any l = length l.others.now
