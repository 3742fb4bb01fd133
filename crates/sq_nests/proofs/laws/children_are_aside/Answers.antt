use Rattle.sq_ir.specs.Plans.{node_at, placed}
use Rattle.sq_nests.proofs.Aside.{a_forest, two-children}
use Rattle.sq_nests.proofs.laws.children_are_aside.Goals as goal

pub returns : goal.returns
returns c = λ buffers nodes offset are. two-children (placed buffers nodes offset) (λ n. (node_at nodes n).level)
    (a_forest buffers nodes offset are)
