-- What is asked of a placed source so that it means on bytes what it means on numbers.
use Rattle.std.specs.Prelude.{◌≡◌, ◌≢◌, ℕ, ◌<◌, List, map, Option, Some, None, slice_get}
use Rattle.sq_text.specs.declared.place.Span.{Span}
use Rattle.sq_ast.specs.declared.program.Mode.TheVariants.{Both}
use Rattle.sq_leaf.specs.declared.shape.Shape.{Shape}
use Rattle.sq_leaf.specs.Source.{Arrays}
use Rattle.sq_leaf.specs.Leaf.{Leaf as LeafSource, leaf_value}
use Rattle.sq_work.specs.declared.reduction.Reduction.{Reduction}
use Rattle.sq_placed.specs.FormLaws.Laws.{NoAlias}
use Rattle.sq_work.specs.Meaning.{leaf_outcome}
use Rattle.sq_placed.specs.Placed.{Placed, PlacedArg, PlacedCall, arguments, Nothing, Then, Each, AtOnce, Gathers, Call}
use Rattle.sq_placed.specs.Placed.{Hold, Piped, Leaf}
use Rattle.sq_cells.specs.Cells.{State}
use Rattle.sq_cells.specs.Work as bytes
use Rattle.sq_plan_laws.specs.Codes.{Codes, SameOutcome}
use Rattle.sq_plan_laws.specs.Calling.{ArgsFit, shapes_of}
use Rattle.sq_plan_laws.specs.OnBytes.{Codings, leaf_work, which_of, arity_of}

-- no argument of the call is reduced into
pub record IsPlain (outer : List Shape) (c : PlacedCall) : Type 0 where
  pub args : ArgsFit outer c.args
  pub no_alias : NoAlias (arguments c.args)
  pub none : (k : ℕ) (p : PlacedArg) → slice_get c.args k ≡ Some p → p.gathers ≡ None

abbrev pub whole : List ℕ → List Span
whole ns = map (λ n. record { lo = 0; hi = n }) ns

-- one argument of the call is, whole and with the operator and the array of the map round it; no other is of that array
pub record IsSum (outer : List Shape) (r : Reduction) (c : PlacedCall) : Type 0 where
  pub args : ArgsFit outer c.args
  pub no_alias : NoAlias (arguments c.args)
  pub sum : PlacedArg
  pub there : slice_get c.args (which_of c.args) ≡ Some sum
  pub gathers : sum.gathers ≡ Some r.op
  pub array : sum.argument.array ≡ r.array
  pub elem : sum.shape.elem ≡ r.elem
  pub mode : sum.argument.mode ≡ Both
  pub is_whole : sum.argument.rect ≡ whole sum.shape.extents
  pub all : (of : Shape) → slice_get outer r.array ≡ Some of → of.extents ≡ sum.shape.extents
  pub others : (k : ℕ) (p : PlacedArg) → slice_get c.args k ≡ Some p → k ≢ which_of c.args → (p.gathers ≡ None)
      × (p.argument.array ≢ r.array)

-- a call by the map round it
abbrev pub CallIs : Option Reduction → (outer : List Shape) → PlacedCall → Type 0
CallIs None outer c = IsPlain outer c
CallIs (Some r) outer c = IsSum outer r c

-- one call and nothing else
pub record IsOne (p : Placed) : Type 0 where
  pub called : PlacedCall
  pub body : Placed
  pub is : p ≡ Then (Call called body) Nothing

-- the code on bytes does what the leaf means on the numbers that they stand for
abbrev pub LeafCoded : Codings → (number : ℕ) → LeafSource → List Shape → Type 0
LeafCoded codes number leaf shapes =
    (s : Arrays) (s' : State) → Codes shapes s s'
    → SameOutcome shapes (leaf_outcome (leaf_value leaf shapes s))
    (bytes.meaning (leaf_work codes number leaf shapes) s')

-- no leaf stands right in it
abbrev pub NoLeaf : Placed → Type 0
NoLeaf Nothing = Unit {0}
NoLeaf (Then a b) = NoLeaf a × NoLeaf b
NoLeaf (Each n w) = (t : ℕ) → t < n → NoLeaf (w t)
NoLeaf (AtOnce place spread n w) = (t : ℕ) → t < n → NoLeaf (w t)
NoLeaf (Gathers r place spread n w) = Unit {0}
NoLeaf (Call c w) = Unit {0}
NoLeaf (Hold args w) = NoLeaf w
NoLeaf (Piped spread n calls w) = Unit {0}
NoLeaf (Leaf number leaf shapes) = ⊥

-- red: by what the map reduces that stands right round it
abbrev pub Fitting : Codings → Placed → (red : Option Reduction) → (outer : List Shape) → Type 0
Fitting codes Nothing red outer = Unit {0}
Fitting codes (Then a b) red outer = Fitting codes a red outer × Fitting codes b red outer
Fitting codes (Each n w) red outer = (t : ℕ) → t < n → Fitting codes (w t) None outer
Fitting codes (AtOnce place spread n w) red outer = (t : ℕ) → t < n → NoLeaf (w t) × Fitting codes (w t) None outer
Fitting codes (Gathers r place spread n w) red outer = (which : ℕ)
    × ((t : ℕ) → t < n → (one : IsOne (w t)) × (which_of one.called.args ≡ which) × Fitting codes (w t) (Some r) outer)
Fitting codes (Call c w) red outer = CallIs red outer c × Fitting codes w None (shapes_of c)
Fitting codes (Hold args w) red outer = Fitting codes w None outer
Fitting codes (Piped spread n calls w) red outer = (t : ℕ) → t < n → IsPlain outer (calls t)
    × (arity_of (calls t) ≡ arity_of (calls 0)) × Fitting codes (w t) None (shapes_of (calls t))
Fitting codes (Leaf number leaf shapes) red outer = (shapes ≡ outer) × LeafCoded codes number leaf shapes
