use Rattle.sq_form_laws.proofs.KeysHold.{key_is_form}
use Rattle.sq_form_laws.proofs.laws.key_is_a_form.Goals as goal

pub returns : goal.returns
returns c = key_is_form
