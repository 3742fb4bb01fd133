use Rattle.sq_form_laws.proofs.RanHold.{forms_ran}
use Rattle.sq_form_laws.proofs.laws.forms_ran.Goals as goal

pub returns : goal.returns
returns c = forms_ran
