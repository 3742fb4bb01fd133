use Rattle.sq_spec.proofs.TablesMean.{tables_mean}
use Rattle.sq_spec.proofs.meaning.tables_mean_the_statements.Goals as goal

pub returns : goal.returns
returns c = tables_mean
