use Rattle.sq_program_laws.proofs.Whole.{programs_fit}
use Rattle.sq_program_laws.proofs.programs_fit.Goals as goal

pub returns : goal.returns
returns c = programs_fit
