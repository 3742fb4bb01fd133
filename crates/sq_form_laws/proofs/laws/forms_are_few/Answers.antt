use Rattle.sq_forms.proofs.AllForms.{few}
use Rattle.sq_form_laws.proofs.laws.forms_are_few.Goals as goal

pub returns : goal.returns
returns c = few
