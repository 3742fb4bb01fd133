use Rattle.sq_form_laws.proofs.CallsHold.{passed_is_unaliased}
use Rattle.sq_form_laws.proofs.laws.what_passes_is_unaliased.Goals as goal

pub returns : goal.returns
returns c = passed_is_unaliased
