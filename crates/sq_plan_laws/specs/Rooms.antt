-- From room in each state of a plan to buffers that stand apart.
use Rattle.std.specs.Prelude.{◌≡◌, ◌≤◌, ℕ, List, [], ◌∷◌, length, Some, slice_get}
use Rattle.sq_leaf.specs.declared.shape.Shape.{Shape}
use Rattle.sq_ir.specs.Tree.{IsNormal}
use Rattle.sq_ir.specs.Unordered.{IsFresh}
use Rattle.sq_ir.specs.Scopes.{InEachState}
use Rattle.sq_ir.specs.Events.{Leaves}
use Rattle.sq_ir.specs.Plans.{HaveRoom}
use Rattle.sq_ir.specs.Written.{Setting}
use Rattle.sq_nests.specs.Stacks.{AreAside}
use Rattle.sq_placed.specs.Placed.{Placed}
use Rattle.sq_cells.specs.Tree.{Cause}
use Rattle.sq_plan_laws.specs.Codes.{bytes_in}
use Rattle.sq_plan_laws.specs.OnBytes.{work}
use Rattle.sq_plan_laws.specs.PlacedEntry.{EntryStowed}
use Rattle.sq_plan_laws.specs.LeafLaws.{codes_of}
use Rattle.sq_plan_laws.specs.Seated.{HasDims, Sits, at_node}
use Rattle.sq_plan_laws.specs.Entry.{form_at, plan_tree}
use Rattle.sq_plan_laws.specs.Room.{HasRoom}
use Rattle.sq_plan_laws.specs.Buffers.{Opens, Owns, HaveLanes}

-- the entry's arrays have buffers of their own
pub record EntryOwns (s : Setting) (outer : List Shape) (buffers : List ℕ) (p : Placed) : Type 0 where
  pub many : length buffers ≡ length outer
  pub dims : (n : ℕ) (sh : Shape) → slice_get outer n ≡ Some sh → HasDims sh.extents
  pub distinct : (i j b : ℕ) → slice_get buffers i ≡ Some b → slice_get buffers j ≡ Some b → i ≡ j
  pub inner : (i b : ℕ) → slice_get buffers i ≡ Some b → Opens p b → ⊥
  pub sizes : (i b : ℕ) (sh : Shape) → slice_get buffers i ≡ Some b → slice_get outer i ≡ Some sh → bytes_in sh
      ≤ s.size b

-- what is asked of a plan beside its room
pub record IsOwned (s : Setting) (leaves : Leaves Cause) (outer : List Shape) (buffers : List ℕ) (p : Placed) : Type 0
  where
    pub entry : EntryOwns s outer buffers p
    pub sits : Sits leaves p outer
    pub owns : Owns s p
    pub lanes : HaveLanes s p 0 0
    pub aside : AreAside (plan_tree s p outer buffers)
    pub normal : IsNormal (plan_tree s p outer buffers)
    pub fresh : IsFresh (plan_tree s p outer buffers)

-- in each state, and at the entry alone
pub record KeepsRoom (s : Setting) (outer : List Shape) (buffers : List ℕ) (p : Placed) : Type 0 where
  pub states : InEachState (HaveRoom s) (plan_tree s p outer buffers)
  pub entry : HaveRoom s (record { node = 0; buffers = buffers } ∷ [])

-- Where the live buffers have room in each state, the buffers stand as the meaning asks, and lie inside their nodes.
abbrev pub RoomIsStowed : Type 0
RoomIsStowed = (s : Setting) (leaves : Leaves Cause) (outer : List Shape) (buffers : List ℕ) (p : Placed)
    → IsOwned s leaves outer buffers p → KeepsRoom s outer buffers p
    → EntryStowed (at_node s 0) (form_at s buffers) outer (work (codes_of leaves) s.offset p outer)
    × HasRoom s leaves outer buffers p s.capacity
