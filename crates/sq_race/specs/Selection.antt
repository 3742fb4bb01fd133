-- Lists of accesses that leave others out.
use Rattle.std.specs.Prelude.{◌≡◌, ℕ, zero, suc, ◌<◌, ◌≤◌, Bool, true, false, not, ◌&&◌, ◌==◌, nat_lt, nat_le, List, [], ◌∷◌, ◌++◌, slice_get, get_or, Option, Some, None, if◌then◌else◌}
use Rattle.std.specs.List.{list_any}
use Rattle.sq_text.specs.declared.place.Span.{Span}
use Rattle.sq_forms.specs.declared.form.Use.{Use}
use Rattle.sq_ast.specs.Modes.{is_written}
use Rattle.sq_race.specs.Accesses.{counts}
use Rattle.sq_race.specs.declared.map.Map.{Map}
use Rattle.sq_race.specs.declared.pairs.Pair.{Pair}

-- the access is of one of the calls
abbrev pub is_within : Span → Use → Bool
is_within calls u = nat_le calls.lo u.call && nat_lt u.call calls.hi

abbrev pub passes : (Use → Bool) → Option Use → Bool
passes test None = false
passes test (Some u) = test u

-- of these numbers those of the accesses that pass the test
abbrev pub those : (Use → Bool) → List Use → List ℕ → List ℕ
those test uses [] = []
those test uses (n ∷ numbers) = if passes test (slice_get uses n) then n ∷ those test uses numbers else those test uses numbers

abbrev pub and_more : Option Use → List Use → List Use
and_more None more = more
and_more (Some u) more = u ∷ more

-- the accesses with these numbers
abbrev pub taken : List Use → List ℕ → List Use
taken uses [] = []
taken uses (n ∷ numbers) = and_more (slice_get uses n) (taken uses numbers)

abbrev pub has : List ℕ → ℕ → Bool
has arrays array = list_any (λ known. known == array) arrays

-- the map writes an array that isn't in the list
abbrev pub adds_write : Map → List ℕ → Use → Bool
adds_write m arrays u = counts m u && is_written u.mode && not (has arrays u.array)

abbrev pub with_write : Map → List ℕ → Option Use → List ℕ
with_write m arrays None = arrays
with_write m arrays (Some u) = if adds_write m arrays u then arrays ++ u.array ∷ [] else arrays

-- the arrays that the map writes, behind these
abbrev pub written : Map → List Use → List ℕ → List ℕ → List ℕ
written m uses arrays [] = arrays
written m uses arrays (n ∷ numbers) = written m uses (with_write m arrays (slice_get uses n)) numbers

-- the access is one of the map and of one of these arrays
abbrev pub is_of : Map → List ℕ → Use → Bool
is_of m arrays u = counts m u && has arrays u.array

-- the numbers below a count
abbrev pub all_below : ℕ → List ℕ
all_below zero = []
all_below (suc n) = all_below n ++ n ∷ []

abbrev pub AllAbove : ℕ → List ℕ → Type 0
AllAbove n [] = Unit {0}
AllAbove n (k ∷ numbers) = (n < k) × AllAbove n numbers

-- each number is greater than those before it
abbrev pub Rises : List ℕ → Type 0
Rises [] = Unit {0}
Rises (n ∷ numbers) = AllAbove n numbers × Rises numbers

pub record IsIn (n : ℕ) (numbers : List ℕ) : Type 0 where
  pub place : ℕ
  pub is : slice_get numbers place ≡ Some n

-- among these numbers are those of all accesses of the map
pub record HaveAll (m : Map) (uses : List Use) (numbers : List ℕ) : Type 0 where
  pub rises : Rises numbers
  pub all : (n : ℕ) (u : Use) → slice_get uses n ≡ Some u → counts m u ≡ true → IsIn n numbers

-- and of each of the maps from number `from` up to `to`
pub record HaveAllOf (maps : List Map) (from to : ℕ) (uses : List Use) (numbers : List ℕ) : Type 0 where
  pub rises : Rises numbers
  pub all : (k : ℕ) (m : Map) → from ≤ k → k < to → slice_get maps k ≡ Some m → (n : ℕ) (u : Use) → slice_get uses n ≡ Some u → counts m u ≡ true → IsIn n numbers

-- the calls of these maps are among these
pub record AreInside (maps : List Map) (from to : ℕ) (calls : Span) : Type 0 where
  pub at : (k : ℕ) (m : Map) → from ≤ k → k < to → slice_get maps k ≡ Some m → (calls.lo ≤ m.calls.lo) × (m.calls.hi ≤ calls.hi)

-- two of the accesses with these numbers, by the numbers of these
abbrev pub renumbered : List ℕ → Option Pair → Option Pair
renumbered numbers None = None
renumbered numbers (Some p) = Some (record { later = get_or numbers p.later 0; earlier = get_or numbers p.earlier 0 })
