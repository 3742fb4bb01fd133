use Rattle.sq_form_laws.proofs.Passing.{calls_are_reached}
use Rattle.sq_form_laws.proofs.laws.calls_are_reached.Goals as goal

pub returns : goal.returns
returns c = calls_are_reached
