use Rattle.std.proofs.Common.{length}
use Rattle.sq_areas.proofs.residues.+common_of.Given as goal

abbrev pub decreases-common_of : goal.decreases-common_of
decreases-common_of l = length l.steps.now
