-- What the nodes of a machine need for a draft.
use Rattle.std.specs.Prelude.{◌≡◌, ℕ, ◌<◌, Bool, List, [], length, get_or}
use Rattle.sq_ir.specs.Written.{at_root}
use Rattle.sq_ir.specs.Machines.{AreNodes}
use Rattle.sq_ir.specs.Plans.{Meets, placed}
use Rattle.sq_ir.specs.declared.plan.Draft.{Draft}
use Rattle.sq_ir.specs.declared.plan.PlanNode.{PlanNode}
use Rattle.sq_nests.specs.Stacks.{capped, sum_at}
use Rattle.sq_nests.specs.Drafts.{whole, scopes, Nothing}
use Rattle.sq_nests.specs.Weights.{weigh}

-- The nodes are a machine's. Numbers have their values, counts aren't negative, children are there, and each buffer
-- that a scope names is there with the level of the scope's node.
pub record IsCounted (d : Draft) (nodes : List PlanNode) : Type 0 where
  pub machine : AreNodes nodes
  pub term : Meets (placed d.buffers nodes (λ b. 0)) Nothing (whole d) at_root []

-- The greatest sum at a node of the buffers of scopes that stand within one another there in the term written out. With
-- `once`, of the buffers of one instance and one array that a scope names, the first alone counts.
abbrev pub need : Draft → List PlanNode → (once : Bool) → (node : ℕ) → ℕ
need d nodes once node = sum_at (weigh d.buffers once) node (scopes d nodes)

-- one number for each node; 2^64 - 1 stands for all that passes it
pub record AreSums (d : Draft) (nodes : List PlanNode) (once : Bool) (sums : List ℕ) : Type 0 where
  pub length_ : length sums ≡ length nodes
  pub each : (node : ℕ) → node < length nodes → get_or sums node 0 ≡ capped (need d nodes once node)
