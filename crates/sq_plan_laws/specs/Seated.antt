-- Where the bytes of a form's arrays stand, and what is asked of a placed source so that its tree is that of its work.
use Rattle.std.specs.Prelude.{◌≡◌, ℕ, ◌+◌, ◌/◌, ◌%◌, ◌<◌, Bool, true, false, List, [], ◌∷◌, map, Option, Some, None}
use Rattle.std.specs.Prelude.{slice_get}
use Rattle.std.specs.List.{All}
use Rattle.sq_num.specs.declared.RedOp.{RedOp}
use Rattle.sq_num.specs.Elements.{width}
use Rattle.sq_rect.specs.Placing.{place_of}
use Rattle.sq_leaf.specs.declared.shape.Shape.{Shape}
use Rattle.sq_leaf.specs.Leaf.{Leaf as LeafSource, written_of}
use Rattle.sq_ir.specs.Events.{Leaves}
use Rattle.sq_ir.specs.Written.{Setting}
use Rattle.sq_placed.specs.declared.home.Home.{Home}
use Rattle.sq_placed.specs.declared.home.Home.TheVariants.{InPlace, Own, Held, Twin}
use Rattle.sq_placed.specs.Placed.{Placed, PlacedArg, PlacedLocal, PlacedCall, Nothing, Then, Each, AtOnce, Gathers}
use Rattle.sq_placed.specs.Placed.{Call, Hold, Piped, Leaf}
use Rattle.sq_placed.specs.Seats.{Seat}
use Rattle.sq_placed.specs.Trees.{is_moved, is_held}
use Rattle.sq_cells.specs.Machine.{Node}
use Rattle.sq_cells.specs.Cells.{Spot, spot}
use Rattle.sq_cells.specs.Tree.{Cause}
use Rattle.sq_cells.specs.Lowered.{Layout}
use Rattle.sq_plan_laws.specs.Coordinates.{coordinate}
use Rattle.sq_plan_laws.specs.Codes.{bytes_in}
use Rattle.sq_plan_laws.specs.Calling.{ArgsFit, shapes_of}
use Rattle.sq_plan_laws.specs.OnBytes.{arity_of}
use Rattle.sq_plan_laws.specs.LeafLaws.{event_shape}
use Rattle.sq_plan_laws.specs.Fitting.{IsOne}

-- one to three dimensions
abbrev pub HasDims : List ℕ → Type 0
HasDims (n ∷ []) = Unit {0}
HasDims (n ∷ m ∷ []) = Unit {0}
HasDims (n ∷ m ∷ k ∷ []) = Unit {0}
HasDims _ = ⊥

-- and the elements of a row lie side by side
abbrev pub IsLined : (extents strides : List ℕ) → Type 0
IsLined (n ∷ []) (s ∷ []) = s ≡ 1
IsLined (n ∷ m ∷ []) (s ∷ t ∷ []) = t ≡ 1
IsLined (n ∷ m ∷ k ∷ []) (s ∷ t ∷ u ∷ []) = u ≡ 1
IsLined _ _ = ⊥

abbrev pub shape_of : Seat → Shape
shape_of q = record { elem = q.view.elem; extents = q.view.extents }

-- byte k of an array, in order of coordinates
abbrev pub seat_cell : Seat → ℕ → Spot
seat_cell q k = spot q.node (place_of q.view (coordinate q.view.extents (k / width q.view.elem)) + k % width
    q.view.elem)

-- the arrays of a form, of these shapes, stand at these seats
pub record IsSeated (outer : List Shape) (seats : List Seat) (at : Layout) : Type 0 where
  pub shapes : map shape_of seats ≡ outer
  pub lined : (n : ℕ) (q : Seat) → slice_get seats n ≡ Some q → IsLined q.view.extents q.view.strides
  pub cells : (n k : ℕ) (q : Seat) → slice_get seats n ≡ Some q → k < bytes_in (shape_of q) → at (spot n k)
      ≡ seat_cell q k

-- all of them stand in this node
abbrev pub AreAt : (node : ℕ) → List Seat → Type 0
AreAt node seats = (n : ℕ) (q : Seat) → slice_get seats n ≡ Some q → q.node ≡ node

-- ---- what is asked

-- a reduced parameter has a buffer of its own
abbrev pub IsOwned : Option RedOp → Home → Type 0
IsOwned None h = Unit {0}
IsOwned (Some op) h = is_moved h ≡ true

-- in the caller's array only a call at the same level has a parameter
abbrev pub IsNear : Bool → Home → Type 0
IsNear lower InPlace = lower ≡ false
IsNear lower (Own b) = Unit {0}
IsNear lower (Held b l) = Unit {0}
IsNear lower (Twin b c) = Unit {0}

pub record CallSits (outer : List Shape) (c : PlacedCall) : Type 0 where
  pub args : ArgsFit outer c.args
  pub owned : (k : ℕ) (p : PlacedArg) → slice_get c.args k ≡ Some p → IsOwned p.gathers p.home
  pub near : (k : ℕ) (p : PlacedArg) → slice_get c.args k ≡ Some p → IsNear c.lower p.home
  pub locals : (k : ℕ) (l : PlacedLocal) → slice_get c.locals k ≡ Some l → HasDims l.shape.extents

pub record HeldSits (outer : List Shape) (ps : List PlacedArg) : Type 0 where
  pub args : ArgsFit outer ps
  pub held : (k : ℕ) (p : PlacedArg) → slice_get ps k ≡ Some p → (p.gathers ≡ None) × (is_held p.home ≡ true)

-- a call of a taken loop, which reaches one form
pub record PipeSits (outer : List Shape) (c first : PlacedCall) : Type 0 where
  pub sits : CallSits outer c
  pub lower : c.lower ≡ true
  pub homes : map (λ (p : PlacedArg). p.home) c.args ≡ map (λ (p : PlacedArg). p.home) first.args
  pub kept : map (λ (k : PlacedLocal). k.buffer) c.locals ≡ map (λ (k : PlacedLocal). k.buffer) first.locals
  pub arity : arity_of c ≡ arity_of first

-- the leaf of the number is this one, on arrays of these shapes
pub record LeafSits (leaves : Leaves Cause) (code : ℕ) (leaf : LeafSource) (shapes outer : List Shape) : Type 0 where
  pub same : shapes ≡ outer
  pub written : leaves.written code ≡ written_of leaf.variant
  pub there : leaves.shapes code ≡ Some (map event_shape shapes)
  pub some : (n : ℕ) (sh : Shape) → slice_get shapes n ≡ Some sh → All (λ k. 0 < k) sh.extents

abbrev pub Sits : Leaves Cause → Placed → (outer : List Shape) → Type 0
Sits leaves Nothing outer = Unit {0}
Sits leaves (Then a b) outer = Sits leaves a outer × Sits leaves b outer
Sits leaves (Each n w) outer = (t : ℕ) → t < n → Sits leaves (w t) outer
Sits leaves (AtOnce place spread n w) outer = (t : ℕ) → t < n → Sits leaves (w t) outer
Sits leaves (Gathers r place spread n w) outer = (lower : Bool)
    × ((t : ℕ) → t < n → (one : IsOne (w t)) × (one.called.lower ≡ lower) × Sits leaves (w t) outer)
Sits leaves (Call c w) outer = CallSits outer c × Sits leaves w (shapes_of c)
Sits leaves (Hold args w) outer = HeldSits outer args × Sits leaves w outer
Sits leaves (Piped spread n calls w) outer = (t : ℕ) → t < n → PipeSits outer (calls t) (calls 0)
    × Sits leaves (w t) (shapes_of (calls t))
Sits leaves (Leaf code leaf shapes) outer = LeafSits leaves code leaf shapes outer

-- ---- the machine of a plan

abbrev pub at_node : Setting → ℕ → Node
at_node s node = record { machine = record { children = s.children; child = s.child }; number = node }
