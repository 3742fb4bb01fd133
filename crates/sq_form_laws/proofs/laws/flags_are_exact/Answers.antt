use Rattle.sq_form_laws.proofs.Exact.{flags_are_exact}
use Rattle.sq_form_laws.proofs.laws.flags_are_exact.Goals as goal

pub returns : goal.returns
returns c = flags_are_exact
