-- What holds of leaves and tables, as laws.
use Rattle.std.specs.Prelude.{ℕ, List}
use Rattle.sq_leaf.specs.declared.shape.Shape.{Shape}
use Rattle.sq_leaf.specs.declared.trap.Trap.{Trap}
use Rattle.sq_leaf.specs.Leaf.{Leaf}
use Rattle.sq_ir.specs.Events as events
use Rattle.sq_plan_laws.specs.Fitting.{LeafCoded}
use Rattle.sq_plan_laws.specs.LeafLaws.{IsInside, IsLeafOf, codes_of}
use Rattle.sq_plan_laws.specs.LeafRuns.{IsCompiled, LinesCanRun, AreSmall}

-- A leaf that runs as it means over every placement depends on the elements inside its arrays alone.
abbrev pub LeavesStayInside : Type 0
LeavesStayInside = (leaf : Leaf) → IsCompiled leaf → LinesCanRun → (shapes : List Shape) → AreSmall shapes
    → IsInside leaf shapes

-- The leaf of a plan does on bytes what it means on the numbers that they stand for.
abbrev pub LeavesAreCoded : Type 0
LeavesAreCoded = (leaves : events.Leaves Trap) (number : ℕ) (leaf : Leaf) (shapes : List Shape)
    → IsLeafOf leaves number leaf → IsInside leaf shapes → LeafCoded (codes_of leaves) number leaf shapes
