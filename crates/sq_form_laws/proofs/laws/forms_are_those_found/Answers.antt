use Rattle.sq_form_laws.proofs.AnswerHold.{forms_are_found}
use Rattle.sq_form_laws.proofs.RanHold.{as_many_forms}
use Rattle.sq_form_laws.proofs.laws.forms_are_those_found.Goals as goal

pub returns : goal.returns
returns c = record { many = as_many_forms; each = forms_are_found }
