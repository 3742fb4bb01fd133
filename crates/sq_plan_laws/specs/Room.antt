-- The bytes that the events of a plan touch lie inside their nodes.
use Rattle.std.specs.Prelude.{ℕ, ◌+◌, ◌*◌, ◌<◌, ◌≤◌, Bool, List, length}
use Rattle.std.specs.List.{All}
use Rattle.sq_num.specs.Elements.{width}
use Rattle.sq_leaf.specs.declared.shape.Shape.{Shape}
use Rattle.sq_ir.specs.Unordered.{AllEvents}
use Rattle.sq_ir.specs.Events as events
use Rattle.sq_ir.specs.Events.{Event, Copy, Fill, Accumulate, Leaf, Leaves, places}
use Rattle.sq_ir.specs.Written.{Setting}
use Rattle.sq_placed.specs.Placed.{Placed}
use Rattle.sq_cells.specs.Cells.{Spot}
use Rattle.sq_cells.specs.Tree.{Cause}
use Rattle.sq_cells.specs.Lowered.{own, IsIn, Scratch}
use Rattle.sq_plan_laws.specs.OnBytes.{work}
use Rattle.sq_plan_laws.specs.PlacedEntry.{entry_arrays}
use Rattle.sq_plan_laws.specs.Seated.{at_node}
use Rattle.sq_plan_laws.specs.LeafLaws.{codes_of}
use Rattle.sq_plan_laws.specs.Entry.{form_at, plan_tree, IsPlan}

-- the row lies inside its node
abbrev pub IsInside : (capacity : ℕ → ℕ) → events.Spot → (bytes : ℕ) → Type 0
IsInside capacity spot bytes = spot.at + bytes ≤ capacity spot.node

-- rows that have bytes, and all places of a leaf's views
abbrev pub IsRoomy : (capacity : ℕ → ℕ) → Event → Type 0
IsRoomy capacity (Copy from to bytes) = 0 < bytes → IsInside capacity from bytes × IsInside capacity to bytes
IsRoomy capacity (Fill to elem count v) = 0 < count * width elem → IsInside capacity to (count * width elem)
IsRoomy capacity (Accumulate op elem from to count) = 0 < count * width elem
    → IsInside capacity from (count * width elem) × IsInside capacity to (count * width elem)
IsRoomy capacity (Leaf node code vs path) = All (λ v. All (λ k. k < capacity node) (places v)) vs

-- the entry's arrays, and every buffer further in, lie below the capacity of their nodes
pub record HasRoom (s : Setting) (leaves : Leaves Cause) (outer : List Shape) (buffers : List ℕ) (p : Placed)
    (capacity : ℕ → ℕ) : Type 0 where
  pub entry : (l : Spot) → IsIn (length outer) (entry_arrays outer) l → (own (at_node s 0) (form_at s buffers) l).index
      < capacity 0
  pub inner : (x : Spot) → Scratch (work (codes_of leaves) s.offset p outer) (at_node s 0) 0 x → x.index
      < capacity x.area

abbrev pub PlansInside : Type 0
PlansInside =
    (s : Setting) (leaves : Leaves Cause) (outer : List Shape) (buffers : List ℕ) (may : ℕ → Bool) (p : Placed)
    → IsPlan s leaves outer buffers may p
    → (capacity : ℕ → ℕ) → HasRoom s leaves outer buffers p capacity
    → AllEvents (IsRoomy capacity) (plan_tree s p outer buffers)
