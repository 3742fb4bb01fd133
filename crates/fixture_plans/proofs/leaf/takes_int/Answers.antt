use Rattle.std.proofs.Common.{◌++◌, ap, ap₂}
use Rattle.sq_ir.specs.DraftLeaves.{local_shapes}
use Rattle.fixture_plans.proofs.leaf.takes_int.Goals as goal

pub returns-then-declares_nothing : goal.returns-then-declares_nothing
returns-then-declares_nothing c
    = λ h numbers. ap₂ (λ x y. x ++ y) (c.has_int.ensures h numbers)
    (ap (local_shapes numbers) (c.declares_nothing.ensures c.if-declares_nothing.true))
