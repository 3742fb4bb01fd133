-- A leaf that was run over the memory of a node.
use Rattle.std.specs.Prelude.{◌≡◌, ℕ, List, set, Result, Some}
use Rattle.sq_rect.specs.declared.view.View.{View}
use Rattle.sq_leaf.specs.declared.trap.Trap.{Trap}
use Rattle.sq_leaf.specs.Leaf.{Leaf}
use Rattle.sq_ir.specs.LeafRuns.{HasRun}
use Rattle.sq_ir.specs.DraftLeaves.{leaf_at}
use Rattle.sq_ir.specs.declared.plan.Plan.{Plan}
use Rattle.sq_tree.specs.Bank.{bytes_at}

-- the bytes of one node are those after the run
pub record RunsAt (l : Leaf) (vs : List View) (node : ℕ) (old now : List (List ℕ))
    (answer : Result Unit Trap) : Type 0 where
  pub after : List ℕ
  pub run : HasRun l vs (bytes_at old node) after answer
  pub nodes : now ≡ set old node after

-- a leaf of a plan, by its number
pub record CallsAt (p : Plan) (code : ℕ) (vs : List View) (node : ℕ) (old now : List (List ℕ))
    (answer : Result Unit Trap) : Type 0 where
  pub leaf : Leaf
  pub there : leaf_at p.draft code ≡ Some leaf
  pub runs : RunsAt leaf vs node old now answer
