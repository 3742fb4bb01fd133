use Rattle.sq_cells.proofs.Laws.{lowered_follows}
use Rattle.sq_cells.proofs.lowered_follows.Goals as goal

pub returns : goal.returns
returns c = lowered_follows
