-- Lists of numbers, compared number by number; a list comes before those that it begins.
use Rattle.std.specs.Prelude.{◌≡◌, ℕ, ◌-◌, not, ◌<◌, ◌≤◌, Bool, true, false, ◌&&◌, ◌||◌, ◌==◌, nat_lt, List, [], ◌∷◌, take, slice_get, Some}
use Rattle.sq_race.specs.Accesses.{counts}
use Rattle.sq_forms.specs.declared.form.Use.{Use}
use Rattle.sq_race.specs.declared.map.Map.{Map}

abbrev pub at_most : List ℕ → List ℕ → Bool
at_most [] ys = true
at_most (x ∷ xs) [] = false
at_most (x ∷ xs) (y ∷ ys) = nat_lt x y || (x == y && at_most xs ys)

-- the numbers of the maps round the map
abbrev pub round : Map → Use → List ℕ
round m u = take m.depth u.iterations

abbrev pub not_after : Map → Use → Use → Bool
not_after m a b = at_most (round m a) (round m b)

abbrev pub follows : Map → Use → Use → Bool
follows m a b = not (counts m a) || not_after m a b

-- The runs of the map follow one another by the numbers of the maps round it.
pub record AreInOrder (m : Map) (uses : List Use) : Type 0 where
  pub at : (i j : ℕ) (a b : Use) → i < j → slice_get uses i ≡ Some a → slice_get uses j ≡ Some b → counts m a ≡ true → counts m b ≡ true → not_after m a b ≡ true

-- Of the first `upto`, of which number `last` is the last that counts, if any does.
pub record OrderedTo (m : Map) (uses : List Use) (last upto : ℕ) : Type 0 where
  pub within : last ≤ upto - 1
  pub at : (i j : ℕ) (a b : Use) → i < j → j < upto → slice_get uses i ≡ Some a → slice_get uses j ≡ Some b → counts m a ≡ true → counts m b ≡ true → not_after m a b ≡ true
  pub last_is : (i : ℕ) (a l : Use) → i < upto → slice_get uses i ≡ Some a → counts m a ≡ true → slice_get uses last ≡ Some l → (counts m l ≡ true) × (i ≤ last)
