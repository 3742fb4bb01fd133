-- The arrays that a root has, as a target of reading.
use Rattle.std.specs.Prelude.{ℕ, ◌+◌, nat_le, Bool, true, ◌&&◌, ◌||◌, if◌then◌else◌, List, [], ◌∷◌, length}
use Rattle.std.specs.List.{list_all}
use Rattle.sq_root.specs.Places.{parts}
use Rattle.sq_root.specs.declared.place.Place.{Place}

abbrev pub is_within : (n : ℕ) → Place → Bool
is_within n p = nat_le (p.at + p.size) n

abbrev pub is_clear : Place → Place → Bool
is_clear p q = nat_le (p.at + p.size) q.at || nat_le (q.at + q.size) p.at

abbrev pub are_apart : List Place → Bool
are_apart [] = true
are_apart (p ∷ ps) = list_all (is_clear p) ps && are_apart ps

abbrev pub fits_in : List Place → (n : ℕ) → Bool
fits_in places n = list_all (is_within n) places && are_apart places

-- the bytes of each place, and none where the places don't fit
abbrev pub arrays_at : List Place → List ℕ → List (List ℕ)
arrays_at places root = if fits_in places (length root) then parts places root else []
