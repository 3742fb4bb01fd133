-- The race of a map that comes first: by the numbers of the maps round it, then by the later access, then by the
-- earlier one.
use Rattle.std.specs.Prelude.{◌≡◌, ℕ, ◌<◌, ◌≤◌, ◌⊎◌, true, List, slice_get, Option, Some, None, if◌then◌else◌}
use Rattle.sq_forms.specs.declared.form.Use.{Use}
use Rattle.sq_race.specs.Order.{at_most, round}
use Rattle.sq_race.specs.Pairs.{RaceAt, NoneYet}
use Rattle.sq_race.specs.declared.map.Map.{Map}
use Rattle.sq_race.specs.declared.pairs.Pair.{Pair}

-- the lesser list of numbers, compared number by number
pub record IsLess (r s : List ℕ) : Type 0 where
  pub order : at_most r s ≡ true
  pub other : r ≡ s → ⊥

-- this pair comes before accesses number i and j, or they are that pair
abbrev pub ComesFirst : List ℕ → Pair → List ℕ → ℕ → ℕ → Type 0
ComesFirst r p s i j = IsLess r s ⊎ ((r ≡ s) × ((p.later < j) ⊎ ((p.later ≡ j) × (p.earlier ≤ i))))

pub record IsLeastPair (m : Map) (uses : List Use) (p : Pair) : Type 0 where
  pub race : RaceAt m uses p.earlier p.later
  pub least : (i j : ℕ) → (y : RaceAt m uses i j) → ComesFirst (round m race.b) p (round m y.b) i j

abbrev pub IsLeast : Map → List Use → Option Pair → Type 0
IsLeast m uses None = (i j : ℕ) → RaceAt m uses i j → ⊥
IsLeast m uses (Some p) = IsLeastPair m uses p

-- among the pairs whose later access is one of the first `upto`
pub record IsLeastPairTo (m : Map) (uses : List Use) (upto : ℕ) (p : Pair) : Type 0 where
  pub below : p.later < upto
  pub race : RaceAt m uses p.earlier p.later
  pub least : (i j : ℕ) → j < upto → (y : RaceAt m uses i j) → ComesFirst (round m race.b) p (round m y.b) i j

abbrev pub IsLeastTo : Map → List Use → ℕ → Option Pair → Type 0
IsLeastTo m uses upto None = NoneYet m uses upto
IsLeastTo m uses upto (Some p) = IsLeastPairTo m uses upto p

-- of two pairs the one whose run comes first, or the known one
pub record IsLesser (m : Map) (uses : List Use) (known next chosen : Pair) : Type 0 where
  pub at : (a b : Use) → slice_get uses known.later ≡ Some a → slice_get uses next.later ≡ Some b → chosen ≡ (if at_most (round m a) (round m b) then known else next)
