-- How many elements an array has, where its extents are within the limits.
use Rattle.std.specs.Prelude.{ℕ, ◌*◌, ◌^◌, Bool, ◌&&◌, ◌||◌, ◌==◌, nat_lt, nat_le, if◌then◌else◌, List, [], ◌∷◌, length, Option, Some, None}
use Rattle.std.specs.Option.{option_and_then}

-- the elements of an array of so many with one more dimension
abbrev pub widened : (elements extent : ℕ) → Option ℕ
widened n e = if e == 0 || nat_lt (2 ^ 24) e then None else (if nat_lt (2 ^ 26) (n * e) then None else Some (n * e))

abbrev pub elements_from : ℕ → List ℕ → Option ℕ
elements_from n [] = Some n
elements_from n (e ∷ es) = option_and_then (λ m. elements_from m es) (widened n e)

abbrev pub are_few : (dimensions : ℕ) → Bool
are_few n = nat_lt 0 n && nat_le n 3

-- of one to three dimensions
abbrev pub elements_of : List ℕ → Option ℕ
elements_of es = if are_few (length es) then elements_from 1 es else None
