-- The best of the rows: the first of those with the least traffic.
use Rattle.std.specs.Prelude.{◌≡◌, ℕ, ◌<◌, ◌≤◌, List, Option, Some, None, slice_get}
use Rattle.sq_tune.specs.declared.row.RowEnd.{RowEnd}
use Rattle.sq_tune.specs.declared.row.RowEnd.TheVariants.{Traffic}

-- the choice of this number is accepted, and its plan has this traffic
abbrev pub Carries : List RowEnd → (n traffic : ℕ) → Type 0
Carries rows n traffic = slice_get rows n ≡ Some (Traffic traffic)

-- It is accepted, no choice that is accepted has less traffic, and none before it as little.
pub record IsLeast (rows : List RowEnd) (n : ℕ) : Type 0 where
  pub traffic : ℕ
  pub accepted : Carries rows n traffic
  pub least : (m other : ℕ) → Carries rows m other → traffic ≤ other
  pub first : (m other : ℕ) → Carries rows m other → m < n → traffic < other

-- none exactly where all are refused
abbrev pub IsBest : List RowEnd → Option ℕ → Type 0
IsBest rows None = (n traffic : ℕ) → Carries rows n traffic → ⊥
IsBest rows (Some n) = IsLeast rows n
