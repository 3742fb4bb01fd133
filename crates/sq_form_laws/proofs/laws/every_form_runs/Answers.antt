use Rattle.sq_form_laws.proofs.FitHold.{forms_fit, forms_run}
use Rattle.sq_form_laws.proofs.laws.every_form_runs.Goals as goal

pub returns : goal.returns
returns c = record { fit = forms_fit; run = forms_run }
