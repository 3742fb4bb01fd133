use Rattle.sq_spec_laws.proofs.OnesHold.{reductions_are_of_one}
use Rattle.sq_spec_laws.proofs.laws.reductions_have_one_call.Goals as goal

pub returns : goal.returns
returns c = reductions_are_of_one
