use Rattle.sq_pass_laws.proofs.HoistPrograms.{hoisted_overlap_nothing}
use Rattle.sq_pass_laws.proofs.hoisted_overlap_nothing.Goals as goal

pub returns : goal.returns
returns g = hoisted_overlap_nothing
