use Rattle.sq_cells.proofs.LeafPlaces.{leaves_placed}
use Rattle.sq_cells.proofs.leaves_placed.Goals as goal

pub returns : goal.returns
returns c = leaves_placed
