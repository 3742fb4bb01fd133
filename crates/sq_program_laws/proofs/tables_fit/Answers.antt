use Rattle.sq_program_laws.proofs.Rows.{tables_fit}
use Rattle.sq_program_laws.proofs.tables_fit.Goals as goal

pub returns : goal.returns
returns c = tables_fit
