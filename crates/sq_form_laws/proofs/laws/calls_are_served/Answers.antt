use Rattle.sq_form_laws.proofs.ServedHold.{calls_are_served}
use Rattle.sq_form_laws.proofs.laws.calls_are_served.Goals as goal

pub returns : goal.returns
returns c = calls_are_served
