use Rattle.sq_pass_laws.proofs.PipePrograms.{overlaps_may_be_chosen}
use Rattle.sq_pass_laws.proofs.overlaps_may_be_chosen.Goals as goal

pub returns : goal.returns
returns c = overlaps_may_be_chosen
