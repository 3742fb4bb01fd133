use Rattle.sq_form_laws.proofs.UsesHold.{limit_is_exact}
use Rattle.sq_form_laws.proofs.laws.limit_of_uses_is_exact.Goals as goal

pub returns : goal.returns
returns c = limit_is_exact
