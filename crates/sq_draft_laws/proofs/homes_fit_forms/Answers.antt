use Rattle.sq_draft_laws.proofs.Fitting.{homes_fit_forms}
use Rattle.sq_draft_laws.proofs.homes_fit_forms.Goals as goal

pub returns : goal.returns
returns c = homes_fit_forms
