use Rattle.sq_program_laws.proofs.Facts.{facts_fit}
use Rattle.sq_program_laws.proofs.facts_fit.Goals as goal

pub returns : goal.returns
returns c = facts_fit
