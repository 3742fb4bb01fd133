use Rattle.std.proofs.Common.{length}
use Rattle.sq_turns.proofs.block.+reach.Given as goal

abbrev pub decreases-reach : goal.decreases-reach
decreases-reach l = length l.extents.now
