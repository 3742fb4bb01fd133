use Rattle.std.proofs.Common.{length}
use Rattle.sq_planevents.proofs.call.+clashes_any.Given as goal

abbrev pub decreases-clashes_any : goal.decreases-clashes_any
decreases-clashes_any l = length l.others.now
