use Rattle.std.proofs.Common.{length}
use Rattle.sq_touches.proofs.touch.+conflict_all.Given as goal

abbrev pub decreases-conflict_all : goal.decreases-conflict_all
decreases-conflict_all l = length l.some.now
