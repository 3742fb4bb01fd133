use Rattle.sq_cells.proofs.Paths.{leaf_paths_apart}
use Rattle.sq_cells.proofs.leaf_paths_apart.Goals as goal

pub returns : goal.returns
returns c = leaf_paths_apart
