use Rattle.sq_pass_laws.proofs.PipePrograms.{overlaps_hold}
use Rattle.sq_pass_laws.proofs.overlaps_hold.Goals as goal

pub returns : goal.returns
returns c = overlaps_hold
