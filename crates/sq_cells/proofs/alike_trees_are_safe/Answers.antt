use Rattle.sq_cells.proofs.Numbered.{alike_safe}
use Rattle.sq_cells.proofs.alike_trees_are_safe.Goals as goal

pub returns : goal.returns
returns c = alike_safe
