use Rattle.sq_cells.proofs.Numbered.{alike_count}
use Rattle.sq_cells.proofs.alike_trees_count_alike.Goals as goal

pub returns : goal.returns
returns c = alike_count
