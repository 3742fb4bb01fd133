use Rattle.sq_form_laws.proofs.Exact.{alias_is_exact}
use Rattle.sq_form_laws.proofs.laws.alias_is_exact.Goals as goal

pub returns : goal.returns
returns c = alias_is_exact
