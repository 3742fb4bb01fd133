use Rattle.sq_cells.proofs.Fitting.{lowered_fit}
use Rattle.sq_cells.proofs.lowered_fit.Goals as goal

pub returns : goal.returns
returns c = lowered_fit
