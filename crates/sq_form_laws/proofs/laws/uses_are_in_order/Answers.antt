use Rattle.sq_form_laws.proofs.KeysFound.{uses_are_in_order}
use Rattle.sq_form_laws.proofs.laws.uses_are_in_order.Goals as goal

pub returns : goal.returns
returns c = uses_are_in_order
