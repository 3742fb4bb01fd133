use Rattle.sq_draft_laws.proofs.MachineLanes.{lanes_are_there}
use Rattle.sq_draft_laws.proofs.lanes_are_there.Goals as goal

pub returns : goal.returns
returns c = lanes_are_there
