use Rattle.std.proofs.Common.{length}
use Rattle.sq_sums.proofs.scale.+is_again.Given as goal

abbrev pub decreases-is_again : goal.decreases-is_again
decreases-is_again l = length l.seen.now
