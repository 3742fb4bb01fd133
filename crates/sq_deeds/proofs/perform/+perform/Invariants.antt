use Rattle.std.proofs.Common.{length}
use Rattle.sq_deeds.proofs.perform.+perform.Given as goal

abbrev pub decreases-perform : goal.decreases-perform
decreases-perform l = length l.deeds.now
