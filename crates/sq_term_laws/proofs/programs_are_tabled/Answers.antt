use Rattle.sq_term_laws.proofs.Programs.{programs_are_tabled}
use Rattle.sq_term_laws.proofs.programs_are_tabled.Goals as goal

pub returns : goal.returns
returns g = programs_are_tabled
