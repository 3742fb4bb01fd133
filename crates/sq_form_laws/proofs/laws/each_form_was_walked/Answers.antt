use Rattle.sq_form_laws.proofs.FormsHold.{each_walked}
use Rattle.sq_form_laws.proofs.laws.each_form_was_walked.Goals as goal

pub returns : goal.returns
returns c = each_walked
