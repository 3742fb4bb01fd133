use Rattle.std.proofs.Common.{length}
use Rattle.sq_flat.proofs.memory.+leave.Given as goal

abbrev pub decreases-leave : goal.decreases-leave
decreases-leave l = length l.args.now
