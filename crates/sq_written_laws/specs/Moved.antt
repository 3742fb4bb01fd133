-- Leaves whose texts stand elsewhere: what a run makes of them.
use Rattle.std.specs.Prelude.{◌≡◌, Bool, Option, Some, None, List, [], ◌∷◌}
use Rattle.sq_ast.specs.Unplaced.{bare_variant}
use Rattle.sq_leaf.specs.declared.trap.Trap.{Trap}
use Rattle.sq_ir.specs.Runs.{Trap as Ending, End, exec}
use Rattle.sq_ir.specs.Events.{Bytes, meaning}
use Rattle.sq_ir.specs.Written.{PlanTree}
use Rattle.sq_ir.specs.DraftLeaves.{leaves_of}
use Rattle.sq_ir.specs.declared.plan.Draft.{Draft}
use Rattle.sq_ir.specs.declared.plan.Leaf.{Leaf}

-- the same leaf, whose text stands elsewhere
pub record IsMoved (l k : Leaf) : Type 0 where
  pub instance : l.instance ≡ k.instance
  pub variant : bare_variant l.code.variant ≡ bare_variant k.code.variant
  pub numbers : l.code.numbers ≡ k.code.numbers

-- as many leaves, each of which is the one beside it
abbrev pub AreMoved : List Leaf → List Leaf → Type 0
AreMoved [] [] = Unit {0}
AreMoved [] (k ∷ ks) = ⊥
AreMoved (l ∷ ls) [] = ⊥
AreMoved (l ∷ ls) (k ∷ ks) = IsMoved l k × AreMoved ls ks

-- both are none, or traps of one kind at one path
abbrev pub TrapAlike : Option (Ending Trap) → Option (Ending Trap) → Type 0
TrapAlike None None = Unit {0}
TrapAlike None (Some u) = ⊥
TrapAlike (Some t) None = ⊥
TrapAlike (Some t) (Some u) = (t.path ≡ u.path) × (t.cause.kind ≡ u.cause.kind)

-- with the same bytes, finished or not, and traps that are the same but for their places
pub record EndsAlike (r s : End Bytes Trap) : Type 0 where
  pub bytes : r.bytes ≡ s.bytes
  pub finished : r.finished ≡ s.finished
  pub trap : TrapAlike r.trap s.trap

-- Whatever tree of events is run under the first order, with leaves whose texts stand elsewhere it ends alike.
abbrev pub MovedEndAlike : Type 0
MovedEndAlike = (d e : Draft) → AreMoved d.leaves e.leaves → (t : PlanTree) (m : Bytes)
    → EndsAlike (exec (meaning (leaves_of d)) t m) (exec (meaning (leaves_of e)) t m)
