use Rattle.sq_cells.proofs.Laws.{lowered_independent}
use Rattle.sq_cells.proofs.lowered_independent.Goals as goal

pub returns : goal.returns
returns c = lowered_independent
