use Rattle.sq_term_laws.proofs.Few.{runs_are_few}
use Rattle.sq_term_laws.proofs.runs_are_few.Goals as goal

pub returns : goal.returns
returns g = runs_are_few
