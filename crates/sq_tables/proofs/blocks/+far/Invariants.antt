use Rattle.std.proofs.Common.{length}
use Rattle.sq_tables.proofs.blocks.+far.Given as goal

abbrev pub decreases-far : goal.decreases-far
decreases-far l = length l.strides.now
