use Rattle.std.proofs.Common.{length}
use Rattle.sq_hoist.proofs.blocks.+same_spans.Given as goal

abbrev pub decreases-same_spans : goal.decreases-same_spans
decreases-same_spans l = length l.left.now
