use Rattle.sq_sums.proofs.Closed.{closed_steady}
use Rattle.sq_sums.proofs.laws.closed_parts_stand_alone.Goals as goal

pub returns : goal.returns
returns c = closed_steady
