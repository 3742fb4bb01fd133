-- How many children the nodes of each level have, from some level on.
use Rattle.std.specs.Prelude.{ℕ, ◌==◌, Bool, true, ◌&&◌, List, [], ◌∷◌, ◌++◌, length, get_or, drop, Option, Some, None}
use Rattle.std.specs.Prelude.{if◌then◌else◌}
use Rattle.sq_ir.specs.declared.num.Num.{Num}
use Rattle.sq_ir.specs.declared.plan.PlanNode.{PlanNode}

-- a node of the first level of which nothing is told yet
abbrev pub with_fan : PlanNode → List ℕ → List ℕ
with_fan n fs = if n.level == length fs then fs ++ (n.children ∷ []) else fs

-- what these nodes tell, one after another
abbrev pub fans_past : List PlanNode → List ℕ → List ℕ
fans_past [] fs = fs
fans_past (n ∷ ns) fs = fans_past ns (with_fan n fs)

-- each node has as many children as are told of its level
abbrev pub are_even : List PlanNode → List ℕ → Bool
are_even [] fs = true
are_even (n ∷ ns) fs = (get_or fs n.level 0 == n.children) && are_even ns fs

-- inside a scope: at a child the levels are those from the next one on
abbrev pub fans_inside : Option Num → List ℕ → List ℕ
fans_inside None fs = fs
fans_inside (Some c) fs = drop 1 fs
