use Rattle.sq_form_laws.proofs.CallsHold.{in_place_is_apart}
use Rattle.sq_form_laws.proofs.laws.what_is_in_place_is_apart.Goals as goal

pub returns : goal.returns
returns c = in_place_is_apart
