use Rattle.sq_cells.proofs.LeafEvents.{leaves_are_calls}
use Rattle.sq_cells.proofs.leaves_are_calls.Goals as goal

pub returns : goal.returns
returns c = leaves_are_calls
