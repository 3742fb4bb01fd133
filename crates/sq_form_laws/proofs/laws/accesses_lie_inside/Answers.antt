use Rattle.sq_form_laws.proofs.InsideHold.{arguments_lie_inside, accesses_lie_inside}
use Rattle.sq_form_laws.proofs.laws.accesses_lie_inside.Goals as goal

pub returns : goal.returns
returns c = record { arguments = arguments_lie_inside; accesses = accesses_lie_inside }
