-- Arrays as bytes: their elements in order of coordinates, the last dimension fastest, each of w bytes. So an array is
-- as many pieces of one size as its first extent says, and each piece is an array of the other dimensions.
use Rattle.std.specs.Prelude.{ℕ, zero, suc, ◌+◌, ◌-◌, ◌*◌, ◌<◌, ◌≤◌, List, [], ◌∷◌, ◌++◌, take, drop}
use Rattle.std.specs.List.{flat_map}
use Rattle.sq_text.specs.declared.place.Span.{Span}
use Rattle.sq_rect.specs.Extents.{product}
use Rattle.sq_rect.specs.Blocks.{extent}
use Rattle.sq_blocks.specs.Arguments.{lengths}
use Rattle.sq_rect.specs.Rows.{numbers_in}

-- the k-th piece of so many bytes
abbrev pub piece : ℕ → ℕ → List ℕ → List ℕ
piece k size list = take size (drop (k * size) list)

-- the bytes of the element at a coordinate: of 2 by 3 `int`s the element 1, 2 has the bytes from 20 to 23
abbrev pub element : ℕ → List ℕ → List ℕ → List ℕ → List ℕ
element w (n ∷ ns) (c ∷ cs) list = element w ns cs (piece c (w * product ns) list)
element w _ _ list = list

-- the bytes of a block of an array of these extents
abbrev pub block_bytes : ℕ → List Span → List ℕ → List ℕ → List ℕ
block_bytes w (s ∷ spans) (n ∷ ns) list = flat_map (λ x. block_bytes w spans ns (piece x (w * product ns) list)) (numbers_in s)
block_bytes w _ _ list = list

-- those of the pieces with the numbers of a span, each an array of these extents
abbrev pub pieces_bytes : ℕ → List Span → List ℕ → ℕ → List ℕ → Span → List ℕ
pieces_bytes w spans ns size list s = flat_map (λ x. block_bytes w spans ns (piece x size list)) (numbers_in s)

-- the list with its piece of this number replaced
abbrev pub put_piece : ℕ → ℕ → List ℕ → List ℕ → List ℕ
put_piece x size p list = take (x * size) list ++ (p ++ drop size (drop (x * size) list))

-- with n pieces from the x-th on changed
abbrev pub with_pieces : (ℕ → List ℕ → List ℕ) → (size n x : ℕ) → List ℕ → List ℕ
with_pieces change size zero x list = list
with_pieces change size (suc n) x list = with_pieces change size n (x + 1) (put_piece x size (change x (piece x size list)) list)

-- the array's bytes with those of a block replaced
abbrev pub with_bytes : ℕ → List Span → List ℕ → List ℕ → List ℕ → List ℕ
with_bytes w (s ∷ spans) (n ∷ ns) block list =
    with_pieces (λ x. with_bytes w spans ns (piece (x - s.lo) (w * product (lengths spans)) block)) (w * product ns) (extent s) s.lo list
with_bytes w _ _ block list = block

-- with the pieces of the numbers of a span replaced, each of which is an array of these extents, by those of a block of
-- this size
abbrev pub pieces_put : ℕ → List Span → List ℕ → (size from : ℕ) → List ℕ → Span → List ℕ → List ℕ
pieces_put w spans ns size from block s list = with_pieces (λ x. with_bytes w spans ns (piece (x - s.lo) from block)) size (extent s) s.lo list

-- the spans are of numbers of the dimensions, and none is empty
abbrev pub Fits : List Span → List ℕ → Type 0
Fits [] [] = Unit {0}
Fits (s ∷ spans) (n ∷ ns) = (s.lo < s.hi) × (s.hi ≤ n) × Fits spans ns
Fits _ _ = ⊥
