use Rattle.sq_program_laws.proofs.Unpiped.{pipes_fit_stand}
use Rattle.sq_program_laws.proofs.pipes_fit_stand.Goals as goal

pub returns : goal.returns
returns c = pipes_fit_stand
