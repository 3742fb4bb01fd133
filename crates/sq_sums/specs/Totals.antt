-- What the events of a plan written out carry over an edge between two levels, and how many of each kind there are.
use Rattle.std.specs.Prelude.{ℕ, ◌+◌}
use Rattle.sq_ir.specs.Tree as tree
use Rattle.sq_ir.specs.Tree.{Tree}
use Rattle.sq_ir.specs.Plans.{tree_of}
use Rattle.sq_ir.specs.Traffic.{level_in, down_by, up_by, copies_by, fills_by, accumulations_by, leaves_by}
use Rattle.sq_ir.specs.declared.plan.Plan.{Plan}
use Rattle.sq_ir.specs.declared.traffic.Carried.{Carried}
use Rattle.sq_ir.specs.declared.traffic.EventCounts.{EventCounts}
use Rattle.sq_nests.specs.Stacks.{capped}

-- the sum over the events of a tree; an event that has trapped is none
abbrev pub tree_sum : {E S : Type 0} → (E → ℕ) → Tree E S → ℕ
tree_sum f tree.Skip = 0
tree_sum f (tree.Act e) = f e
tree_sum f (tree.Stuck e) = 0
tree_sum f (tree.Seq a b) = tree_sum f a + tree_sum f b
tree_sum f (tree.Par a b) = tree_sum f a + tree_sum f b
tree_sum f (tree.Within s a) = tree_sum f a

-- ---- of a plan; a sum stops at the greatest number of 64 bits

abbrev pub carried_by : Plan → (edge : ℕ) → Carried
carried_by p edge = record {
  down = capped (tree_sum (down_by (level_in p.nodes) edge) (tree_of p));
  up = capped (tree_sum (up_by (level_in p.nodes) edge) (tree_of p));
}

abbrev pub counts_of : Plan → EventCounts
counts_of p = record {
  copies = capped (tree_sum copies_by (tree_of p));
  fills = capped (tree_sum fills_by (tree_of p));
  accumulations = capped (tree_sum accumulations_by (tree_of p));
  leaves = capped (tree_sum leaves_by (tree_of p));
}
