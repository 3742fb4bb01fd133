use Rattle.sq_form_laws.proofs.AnswerHold.{forms_callers_first}
use Rattle.sq_form_laws.proofs.TreeHolds.{callers_first}
use Rattle.sq_form_laws.proofs.laws.callers_come_first.Goals as goal

pub returns : goal.returns
returns c = record { found = callers_first; forms = forms_callers_first }
