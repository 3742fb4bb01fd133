use Rattle.std.proofs.Common.{length}
use Rattle.sq_areas.proofs.view.+put_steps.Given as goal

abbrev pub decreases-put_steps : goal.decreases-put_steps
decreases-put_steps l = length l.extents.now
