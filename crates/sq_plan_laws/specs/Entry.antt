-- The plan of a placed source, at the entry: how its run ends, and that its events are independent.
use Rattle.std.specs.Prelude.{◌≡◌, ℕ, Bool, true, List, [], ◌∷◌, length, get_or, slice_get, Some, None, Ok, Err}
use Rattle.sq_leaf.specs.declared.shape.Shape.{Shape}
use Rattle.sq_leaf.specs.Source.{Arrays}
use Rattle.sq_work.specs.Meaning.{Outcome, meaning}
use Rattle.sq_ir.specs.Runs.{End, exec}
use Rattle.sq_ir.specs.Unordered.{AllEvents, EachUnordered}
use Rattle.sq_ir.specs.Events as events
use Rattle.sq_ir.specs.Events.{Leaves, Bytes, AreIndependent}
use Rattle.sq_ir.specs.Written.{Setting, PlanTree, scoped}
use Rattle.sq_placed.specs.Placed.{Placed, plain}
use Rattle.sq_placed.specs.Seats.{Seat, buffer_seat}
use Rattle.sq_placed.specs.Trees.{tree}
use Rattle.sq_cells.specs.Machine.{Form}
use Rattle.sq_cells.specs.Cells.{State}
use Rattle.sq_cells.specs.Tree.{Cause}
use Rattle.sq_cells.specs.Lowered.{own}
use Rattle.sq_cells.specs.Alike.{byte_of, MayRun}
use Rattle.sq_plan_laws.specs.Codes.{Codes}
use Rattle.sq_plan_laws.specs.PlacedEntry.{IsReady}
use Rattle.sq_plan_laws.specs.Seated.{HasDims, Sits, at_node}
use Rattle.sq_plan_laws.specs.LeafLaws.{codes_of}

-- the entry's arrays in these buffers of the root
abbrev pub seats_at : Setting → List Shape → List ℕ → List Seat
seats_at s [] bs = []
seats_at s (x ∷ xs) [] = []
seats_at s (x ∷ xs) (b ∷ bs) = buffer_seat s 0 b x ∷ seats_at s xs bs

abbrev pub form_at : Setting → List ℕ → Form
form_at s buffers i = s.offset (get_or buffers i 0)

-- the plan written out, the entry's buffers in scope round it
abbrev pub plan_tree : Setting → Placed → List Shape → List ℕ → PlanTree
plan_tree s p outer buffers = scoped 0 buffers (tree s p 0 0 (seats_at s outer buffers) [])

-- what the entry's buffers hold
abbrev pub held_in : Setting → List ℕ → Bytes → State
held_in s buffers m l = m (byte_of (own (at_node s 0) (form_at s buffers) l))

-- the arrays in the entry's buffers are those that are meant, or the trap is
abbrev pub EndsSo : Setting → List Shape → List ℕ → Outcome → End Bytes Cause → Type 0
EndsSo s outer buffers (Ok a) e = (e.trap ≡ None) × (e.finished ≡ true) × Codes outer a (held_in s buffers e.bytes)
EndsSo s outer buffers (Err x) e = e.trap ≡ Some (record { path = x.path; cause = x.trap })

-- what is asked of a placed source and of where it was placed
pub record IsPlan (s : Setting) (leaves : Leaves Cause) (outer : List Shape) (buffers : List ℕ) (may : ℕ → Bool)
    (p : Placed) : Type 0 where
  pub many : length buffers ≡ length outer
  pub dims : (n : ℕ) (sh : Shape) → slice_get outer n ≡ Some sh → HasDims sh.extents
  pub sits : Sits leaves p outer
  pub ready : IsReady (codes_of leaves) s.offset (at_node s 0) (form_at s buffers) outer may p

-- Whatever bytes there are, the run by the plan's form ends as the source means on the numbers that stand in the
-- entry's buffers.
abbrev pub PlansFollow : Type 0
PlansFollow =
    (s : Setting) (leaves : Leaves Cause) (outer : List Shape) (buffers : List ℕ) (may : ℕ → Bool) (p : Placed)
    → IsPlan s leaves outer buffers may p
    → (a : Arrays) (m : Bytes) → Codes outer a (held_in s buffers m)
    → EndsSo s outer buffers (meaning (plain p) a) (exec (events.meaning leaves) (plan_tree s p outer buffers) m)

-- Its unordered events are independent, rows share no byte with where they go, and a leaf's written views share none.
abbrev pub PlansAreSafe : Type 0
PlansAreSafe =
    (s : Setting) (leaves : Leaves Cause) (outer : List Shape) (buffers : List ℕ) (may : ℕ → Bool) (p : Placed)
    → IsPlan s leaves outer buffers may p
    → EachUnordered (AreIndependent leaves) (plan_tree s p outer buffers)
    × AllEvents (MayRun leaves) (plan_tree s p outer buffers)
