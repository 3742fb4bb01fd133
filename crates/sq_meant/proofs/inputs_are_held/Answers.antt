use Rattle.sq_meant.proofs.Given as given
use Rattle.sq_meant.proofs.inputs_are_held.Goals as goal

pub returns : goal.returns
returns c = given.inputs_are_held c.resolved_programs_were_walked.ensures
