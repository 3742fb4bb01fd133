use Rattle.sq_tree.proofs.Endings.{begins}
use Rattle.sq_tree.proofs.trace.put_leaf.Goals as goal

pub returns-clause-wrote : goal.returns-clause-wrote
returns-clause-wrote g c =
    rw c.instance.ensures at (c.put.ensures.wrote _ _ _ (c.add-4.ensures.gathers _ _ _ (c.add-3.ensures.gathers _ _ _
    (c.add-2.ensures.gathers _ _ _ (c.add_node.ensures.gathers _ _ _ (c.add.ensures.gathers _ _ _ (begins _ _ _ c.requires)))))))
