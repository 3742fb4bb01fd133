-- Blanks, places and runs of bytes.
use Rattle.std.specs.Prelude.{ℕ, Bool, true, false, cond, ◌||◌, ◌==◌, nat_lt, List, [], ◌∷◌, length, take}
use Rattle.std.specs.List.{fold}
use Rattle.sq_text.specs.declared.place.Place.{Place}
use Rattle.sq_text.specs.Places.{place_after}
use Rattle.sq_text.specs.Limits.{most_data}

-- space, tab, CR, LF
abbrev pub is_blank : ℕ → Bool
is_blank b = b == 32 || b == 9 || b == 13 || b == 10

-- whether a byte is a blank as is asked
abbrev pub is_in : Bool → ℕ → Bool
is_in true b = is_blank b
is_in false b = cond (is_blank b) false true

-- the place behind these bytes
abbrev pub along : Place → List ℕ → Place
along p bs = fold place_after p bs

-- the bytes that count of a file, and whether it has more
unfoldable pub within : List ℕ → List ℕ
within bytes = take most_data bytes

unfoldable pub is_over : List ℕ → Bool
is_over bytes = nat_lt most_data (length bytes)

-- the bytes in front that are blanks, or that are none; and what is behind them
abbrev pub run : Bool → List ℕ → List ℕ
run blank [] = []
run blank (b ∷ bs) = cond (is_in blank b) (b ∷ run blank bs) []

abbrev pub behind : Bool → List ℕ → List ℕ
behind blank [] = []
behind blank (b ∷ bs) = cond (is_in blank b) (behind blank bs) (b ∷ bs)
