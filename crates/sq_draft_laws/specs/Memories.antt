-- The nodes of a machine as the memories of a plan.
use Rattle.std.specs.Prelude.{map}
use Rattle.sq_machfile.specs.declared.node.Node.{Node}
use Rattle.sq_machfile.specs.Machines.{Hierarchy, WithinLimits}
use Rattle.sq_ir.specs.declared.plan.PlanNode.{PlanNode}
use Rattle.sq_draft_laws.specs.Choosing.{AreMemories}

-- a node without its name
abbrev pub plan_node : Node → PlanNode
plan_node n = record { level = n.level; capacity = n.capacity; first_child = n.first_child; children = n.children }

-- Those of a machine within the limits are the memories of its levels.
abbrev pub NodesAreMemories : Type 0
NodesAreMemories = (m : Hierarchy) → WithinLimits m → AreMemories m.levels (map plan_node m.nodes)
