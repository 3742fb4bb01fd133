use Rattle.std.proofs.Common.{length}
use Rattle.sq_clashes.proofs.reaches.+span_of.Given as goal

abbrev pub decreases-span_of : goal.decreases-span_of
decreases-span_of l = length l.steps.now
