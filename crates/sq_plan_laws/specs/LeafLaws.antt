-- What leaf code has to keep to, so that it does on bytes what it means on numbers.
use Rattle.std.specs.Prelude.{◌≡◌, ℕ, Bool, false, List, map, get_or, slice_get, Some, Result, Ok, Err}
use Rattle.sq_num.specs.Elements.{IsValue}
use Rattle.sq_rect.specs.Placing.{IsIn}
use Rattle.sq_leaf.specs.declared.shape.Shape.{Shape}
use Rattle.sq_leaf.specs.declared.trap.Trap.{Trap}
use Rattle.sq_leaf.specs.Source.{Arrays}
use Rattle.sq_leaf.specs.Leaf.{Leaf, written_of, leaf_value}
use Rattle.sq_ir.specs.Events as events
use Rattle.sq_ir.specs.DraftLeaves.{leaf_end}
use Rattle.sq_plan_laws.specs.OnBytes.{Codings}
use Rattle.sq_cells.specs.LeafCode.{code_of}

-- the arrays are the same inside these shapes
abbrev pub AgreeIn : List Shape → Arrays → Arrays → Type 0
AgreeIn shapes a b = (n : ℕ) (sh : Shape) (cs : List ℕ) → slice_get shapes n ≡ Some sh → IsIn sh.extents cs → a n cs
    ≡ b n cs

-- their elements are values of their types
abbrev pub AreValues : List Shape → Arrays → Type 0
AreValues shapes a = (n : ℕ) (sh : Shape) (cs : List ℕ) → slice_get shapes n ≡ Some sh → IsIn sh.extents cs
    → IsValue sh.elem (a n cs)

-- those that may not be written are the same
abbrev pub KeptIn : List Bool → List Shape → Arrays → Arrays → Type 0
KeptIn written shapes a b = (n : ℕ) (sh : Shape) (cs : List ℕ) → get_or written n false ≡ false → slice_get shapes n
    ≡ Some sh → IsIn sh.extents cs → b n cs ≡ a n cs

abbrev pub EndAlike : List Shape → Result Arrays Trap → Result Arrays Trap → Type 0
EndAlike shapes (Ok a) (Ok b) = AgreeIn shapes a b
EndAlike shapes (Ok a) (Err y) = ⊥
EndAlike shapes (Err x) (Ok b) = ⊥
EndAlike shapes (Err x) (Err y) = x ≡ y

-- On values of their types a leaf depends on the elements inside its arrays alone, leaves such values, and changes no
-- array that it may not write.
pub record IsInside (leaf : Leaf) (shapes : List Shape) : Type 0 where
  pub alike : (a b : Arrays) → AreValues shapes a → AgreeIn shapes a b
      → EndAlike shapes (leaf_value leaf shapes a) (leaf_value leaf shapes b)
  pub values : (a b : Arrays) → AreValues shapes a → leaf_value leaf shapes a ≡ Ok b → AreValues shapes b
  pub kept : (a b : Arrays) → AreValues shapes a → leaf_value leaf shapes a ≡ Ok b
      → KeptIn (written_of leaf.variant) shapes a b

-- the leaf of a number is this one, as a draft has it
pub record IsLeafOf (leaves : events.Leaves Trap) (number : ℕ) (leaf : Leaf) : Type 0 where
  pub ends : (xs : List events.Array) → leaves.ends number xs ≡ leaf_end leaf xs
  pub written : leaves.written number ≡ written_of leaf.variant

abbrev pub event_shape : Shape → events.Shape
event_shape sh = record { elem = sh.elem; extents = sh.extents }

-- the codes of a plan's leaves
abbrev pub codes_of : events.Leaves Trap → Codings
codes_of leaves number shapes = code_of leaves number (map event_shape shapes)
