use Rattle.std.proofs.Common.{length}
use Rattle.sq_planevents.proofs.call.+two_clash.Given as goal

abbrev pub decreases-two_clash : goal.decreases-two_clash
decreases-two_clash l = length l.touched.now
