-- Arrays of numbers, and the bytes that they are loaded from.
use Rattle.std.specs.Prelude.{◌≡◌, ℕ, zero, suc, ◌+◌, ◌*◌, List, [], ◌∷◌, Some, Ok, Err, ℤ, slice_get}
use Rattle.sq_num.specs.Elements.{width, value}
use Rattle.sq_rect.specs.Extents.{product}
use Rattle.sq_rect.specs.Placing.{IsIn}
use Rattle.sq_leaf.specs.declared.shape.Shape.{Shape}
use Rattle.sq_leaf.specs.Source.{Arrays}
use Rattle.sq_work.specs.Meaning.{Outcome}
use Rattle.sq_cells.specs.Cells.{spot, State}
use Rattle.sq_cells.specs.Work as bytes
use Rattle.sq_plan_laws.specs.Coordinates.{number}

-- the first n values of f, the first one first
abbrev pub listed : {A : Type 0} → ℕ → (ℕ → A) → List A
listed zero f = []
listed (suc n) f = f 0 ∷ listed n (λ k. f (suc k))

-- how many bytes an array has
abbrev pub bytes_in : Shape → ℕ
bytes_in sh = product sh.extents * width sh.elem

-- the element at a coordinate, of an array with these bytes
abbrev pub loaded : Shape → (ℕ → ℕ) → List ℕ → ℤ
loaded sh x cs = value sh.elem (listed (width sh.elem) (λ b. x (number sh.extents cs * width sh.elem + b)))

-- arrays of these shapes hold what is loaded from the bytes
pub record Codes (shapes : List Shape) (s : Arrays) (s' : State) : Type 0 where
  pub at : (n : ℕ) (sh : Shape) (cs : List ℕ) → slice_get shapes n ≡ Some sh → IsIn sh.extents cs → s n cs
      ≡ loaded sh (λ k. s' (spot n k)) cs

-- both end, with such arrays, or both trap alike
abbrev pub SameOutcome : List Shape → Outcome → bytes.Outcome → Type 0
SameOutcome shapes (Ok s) (bytes.Ends s') = Codes shapes s s'
SameOutcome shapes (Ok s) (bytes.Traps y) = ⊥
SameOutcome shapes (Err x) (bytes.Ends s') = ⊥
SameOutcome shapes (Err x) (bytes.Traps y) = (x.path ≡ y.path) × (x.trap ≡ y.cause)
