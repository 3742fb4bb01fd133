-- Elements by their numbers in order of coordinates, the last dimension fastest, and the bytes of a block by their
-- numbers.
use Rattle.std.specs.Prelude.{ℕ, ◌+◌, ◌*◌, ◌/◌, ◌%◌, ◌<◌, ◌≤◌, List, [], ◌∷◌}
use Rattle.sq_text.specs.declared.place.Span.{Span}
use Rattle.sq_rect.specs.Extents.{product, row_major}
use Rattle.sq_rect.specs.Placing.{offset}
use Rattle.sq_blocks.specs.Arguments.{lengths}
use Rattle.sq_work.specs.Meaning.{in_array}

-- the number of an element: of 2 by 5 elements the one at 1, 2 has number 7
abbrev pub number : List ℕ → List ℕ → ℕ
number ns cs = offset (row_major ns) cs

-- and the coordinate of the element with a number
abbrev pub coordinate : List ℕ → ℕ → List ℕ
coordinate [] k = []
coordinate (n ∷ ns) k = (k / product ns) ∷ coordinate ns (k % product ns)

-- byte k of a block of elements of w bytes, as a byte of its array, which has these extents
abbrev pub block_cell : (w : ℕ) → List Span → List ℕ → ℕ → ℕ
block_cell w rect ns k = number ns (in_array rect (coordinate (lengths rect) (k / w))) * w + k % w

-- the spans are of numbers of the dimensions, and none is empty
abbrev pub Fits : List Span → List ℕ → Type 0
Fits [] [] = Unit {0}
Fits (s ∷ spans) (n ∷ ns) = (s.lo < s.hi) × (s.hi ≤ n) × Fits spans ns
Fits _ _ = ⊥
