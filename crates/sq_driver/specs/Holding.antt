-- What a text is, where it is there.
use Rattle.std.specs.Prelude.{◌≡◌, ℕ, List, Option, Some}

-- the text is there, and is the value's
abbrev pub Holds : {A : Type 0} → (List ℕ → A → Type 0) → Option (List ℕ) → A → Type 0
Holds Is given value = (text : List ℕ) × (given ≡ Some text) × Is text value

-- and is no other's
pub record HoldsOnly {A : Type 0} (Is : List ℕ → A → Type 0) (given : Option (List ℕ)) (value : A) : Type 0 where
  pub holds : Holds Is given value
  pub only : (that : A) → Holds Is given that → that ≡ value
