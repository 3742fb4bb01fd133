use Rattle.sq_pass_laws.proofs.PipePrograms.{overlaps_fit}
use Rattle.sq_pass_laws.proofs.overlaps_fit.Goals as goal

pub returns : goal.returns
returns c = overlaps_fit
