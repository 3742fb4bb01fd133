use Rattle.sq_cells.proofs.Numbered.{alike_end}
use Rattle.sq_cells.proofs.alike_trees_end_alike.Goals as goal

pub returns : goal.returns
returns c = alike_end
