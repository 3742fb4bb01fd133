-- A plan made by hand: one action again and again, on one memory with one buffer.
use Rattle.std.specs.Prelude.{◌≡◌, ℕ, pos, List, [], ◌∷◌}
use Rattle.sq_num.specs.declared.Elem.TheVariants.{Byte, Int}
use Rattle.sq_ir.specs.Events.{Shape}
use Rattle.sq_ir.specs.Examples.{buffer, slot}
use Rattle.sq_ir.specs.declared.num.Num.TheVariants as n
use Rattle.sq_ir.specs.declared.term.LeafView.{LeafView}
use Rattle.sq_ir.specs.declared.term.Action.{Action}
use Rattle.sq_ir.specs.declared.term.Action.TheVariants as action
use Rattle.sq_ir.specs.declared.term.Term.{Term}
use Rattle.sq_ir.specs.declared.term.Term.TheVariants as t
use Rattle.sq_ir.specs.declared.plan.PlanNode.{PlanNode}
use Rattle.sq_ir.specs.declared.plan.Leaf.{Leaf}
use Rattle.sq_ir.specs.declared.plan.Plan.{Plan}

-- the memory, all of which is the buffer
abbrev pub memory : (size : ℕ) → List PlanNode
memory size = record { level = 0; capacity = size; first_child = 0; children = 0 } ∷ []

-- a term on it
abbrev pub on_memory : (size : ℕ) → List Leaf → Term → Plan
on_memory size leaves term =
    record {
      draft = record { term = term; buffers = buffer 0 size ∷ []; leaves = leaves; entry = 0 ∷ []; notes = [] };
      offsets = 0 ∷ [];
      nodes = memory size;
    }

-- so many times so many times the action
abbrev pub repeated : (outer inner : ℕ) → Action → Term
repeated outer inner a = t.Loop (n.Const (pos outer)) (t.Loop (n.Const (pos inner)) (t.Act a))

abbrev pub turns : (size : ℕ) → List Leaf → (outer inner : ℕ) → Action → Plan
turns size leaves outer inner a = on_memory size leaves (repeated outer inner a)

-- the first bytes become 7
abbrev pub fill : (count : ℕ) → Action
fill count = action.FillRow (slot 0 (n.Const (pos 0))) Byte count (pos 7)

-- the first bytes are copied to those behind them
abbrev pub copy : (bytes : ℕ) → Action
copy bytes = action.CopyRow (slot 0 (n.Const (pos 0))) (slot 0 (n.Const (pos bytes))) bytes

-- a leaf works on three arrays of 4 by 4 ints, which stand one behind the other
abbrev pub square : (at : ℕ) → LeafView
square at = record { slot = slot 0 (n.Const (pos at)); elem = Int; extents = 4 ∷ 4 ∷ []; strides = 4 ∷ 1 ∷ [] }

abbrev pub square_shape : Shape
square_shape = record { elem = Int; extents = 4 ∷ 4 ∷ [] }

abbrev pub squares : List Shape
squares = square_shape ∷ square_shape ∷ square_shape ∷ []

pub record AreSquares (a b c : Shape) : Type 0 where
  pub first : a ≡ square_shape
  pub second : b ≡ square_shape
  pub third : c ≡ square_shape

abbrev pub product : Action
product = action.Leaf 0 (square 0 ∷ square 64 ∷ square 128 ∷ []) []
