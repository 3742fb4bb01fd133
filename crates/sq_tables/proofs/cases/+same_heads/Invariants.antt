use Rattle.std.proofs.Common.{length}
use Rattle.sq_tables.proofs.cases.+same_heads.Given as goal

abbrev pub decreases-same_heads : goal.decreases-same_heads
decreases-same_heads l = length l.xs.now
