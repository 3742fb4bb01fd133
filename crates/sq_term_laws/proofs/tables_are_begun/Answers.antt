use Rattle.sq_term_laws.proofs.Begun.{tables_are_begun}
use Rattle.sq_term_laws.proofs.tables_are_begun.Goals as goal

pub returns : goal.returns
returns g = tables_are_begun
