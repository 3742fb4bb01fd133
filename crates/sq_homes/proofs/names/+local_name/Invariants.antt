use Rattle.std.proofs.Common.{length}
use Rattle.sq_homes.proofs.names.+local_name.Given as goal

abbrev pub decreases-local_name : goal.decreases-local_name
decreases-local_name l = length l.decls.now
