-- The elements of a block are those of the array.
use Rattle.std.proofs.Common.{arith, ◌≡◌, ◌∙◌, sym, ap, subst, refl, ℕ, zero, suc, ◌+◌, ◌*◌, ◌<◌, ◌≤◌, List, [], ◌∷◌, ◌++◌, length, take, drop}
use Rattle.std.specs.List.{flat_map, range_with_len}
use Rattle.std.proofs.lemmas.List.{length-take-le, length-drop, length-append}
use Rattle.std.proofs.Math.Nat.{mul-le-mul_right}
use Rattle.std.proofs.Math.Seq.{take-append_seam, drop-append-add}
use Rattle.sq_text.specs.declared.place.Span.{Span}
use Rattle.sq_rect.specs.Extents.{product}
use Rattle.sq_rect.specs.Placing.{IsIn}
use Rattle.sq_blocks.specs.Arguments.{lengths}
use Rattle.sq_work.specs.Meaning.{in_array}
use Rattle.sq_rect.specs.Blocks.{extent}
use Rattle.sq_flat.specs.Blocks.{Fits, piece, element, block_bytes}

-- all pieces from a number on have this size
pub record HaveSize (f : ℕ → List ℕ) (size lo n : ℕ) : Type 0 where
  pub each : (x : ℕ) → lo ≤ x → x < lo + n → length (f x) ≡ size

have_later : (f : ℕ → List ℕ) (size lo n : ℕ) → HaveSize f size lo (suc n) → HaveSize f size (lo + 1) n
have_later f size lo n have = record { each = λ x from below. have.each x (omega (arith, from)) (omega (arith, below)) }

pub length_pieces : (f : ℕ → List ℕ) (size lo n : ℕ) → HaveSize f size lo n → length (flat_map f (range_with_len lo n)) ≡ n * size
length_pieces f size lo zero have = omega arith
length_pieces f size lo (suc n) have =
    let first : length (f lo) ≡ size = have.each lo (omega arith) (omega arith) in
    let rest : length (flat_map f (range_with_len (lo + 1) n)) ≡ n * size = length_pieces f size (lo + 1) n (have_later f size lo n have) in
    length-append (f lo) (flat_map f (range_with_len (lo + 1) n)) ∙ omega (arith, first, rest)

pub piece_at : (f : ℕ → List ℕ) (size lo n k : ℕ) → HaveSize f size lo n → k < n → piece k size (flat_map f (range_with_len lo n)) ≡ f (lo + k)
piece_at f size lo zero k have below = absurd (omega (arith, below))
piece_at f size lo (suc n) zero have below =
    let first : length (f lo) ≡ size = have.each lo (omega arith) (omega arith) in
    let rest : List ℕ = flat_map f (range_with_len (lo + 1) n) in
    let same : f lo ≡ f (lo + 0) = ap f (omega arith) in
    let none : 0 * size ≡ 0 = omega arith in
    ap (λ (z : ℕ). take size (drop z (f lo ++ rest))) none
    ∙ (ap (λ (z : ℕ). take z (f lo ++ rest)) (sym first)
    ∙ (take-append_seam (f lo) rest ∙ same))
piece_at f size lo (suc n) (suc k) have below =
    let first : length (f lo) ≡ size = have.each lo (omega arith) (omega arith) in
    let rest : List ℕ = flat_map f (range_with_len (lo + 1) n) in
    let past : drop (suc k * size) (f lo ++ rest) ≡ drop (k * size) rest =
    ap (λ (z : ℕ). drop z (f lo ++ rest)) (omega (arith, first)) ∙ drop-append-add (f lo) rest (k * size) in
    ap (take size) past
    ∙ (piece_at f size (lo + 1) n k (have_later f size lo n have) (omega (arith, below))
    ∙ ap f (omega arith))

pub length_piece : (x n size : ℕ) (list : List ℕ) → x < n → length list ≡ n * size → length (piece x size list) ≡ size
length_piece x n size list below is =
    let room : suc x * size ≤ n * size = mul-le-mul_right size below in
    length-take-le size (drop (x * size) list) (subst (λ (z : ℕ). size ≤ z) (sym (length-drop (x * size) list)) (omega (arith, room, is)))

-- a piece of an array is an array of the other dimensions
pub piece_whole : (w x n : ℕ) (ns : List ℕ) (list : List ℕ) → x < n → length list ≡ w * product (n ∷ ns) → length (piece x (w * product ns) list) ≡ w * product ns
piece_whole w x n ns list below is = length_piece x n (w * product ns) list below (omega (arith, is))

pub length_block : (w : ℕ) (spans : List Span) (ns list : List ℕ) → Fits spans ns → length list ≡ w * product ns → length (block_bytes w spans ns list) ≡ w * product (lengths spans)
length_block w [] [] list fits is = is
length_block w [] (n ∷ ns) list fits is = absurd fits
length_block w (s ∷ spans) [] list fits is = absurd fits
length_block w (s ∷ spans) (n ∷ ns) list fits is =
    length_pieces (λ x. block_bytes w spans ns (piece x (w * product ns) list)) (w * product (lengths spans)) s.lo (extent s) (record {
      each = λ x from below. length_block w spans ns (piece x (w * product ns) list) fits.2 (piece_whole w x n ns list (omega (arith, below, fits.1, fits.0)) is);
    })
    ∙ omega arith

block_sizes : (w : ℕ) (s : Span) (spans : List Span) (n : ℕ) (ns list : List ℕ) → Fits (s ∷ spans) (n ∷ ns) → length list ≡ w * product (n ∷ ns)
    → HaveSize (λ x. block_bytes w spans ns (piece x (w * product ns) list)) (w * product (lengths spans)) s.lo (extent s)
block_sizes w s spans n ns list fits is = record {
  each = λ x from below.
      length_block w spans ns (piece x (w * product ns) list) fits.2 (piece_whole w x n ns list (omega (arith, below, fits.1, fits.0)) is);
}

pub element_block : (w : ℕ) (spans : List Span) (ns list cs : List ℕ) → Fits spans ns → length list ≡ w * product ns → IsIn (lengths spans) cs
    → element w (lengths spans) cs (block_bytes w spans ns list) ≡ element w ns (in_array spans cs) list
element_block w [] [] list [] fits is inside = refl
element_block w [] [] list (c ∷ cs) fits is inside = absurd inside
element_block w [] (n ∷ ns) list cs fits is inside = absurd fits
element_block w (s ∷ spans) [] list cs fits is inside = absurd fits
element_block w (s ∷ spans) (n ∷ ns) list [] fits is inside = absurd inside
element_block w (s ∷ spans) (n ∷ ns) list (c ∷ cs) fits is inside =
    let size : ℕ = w * product ns in
    ap (element w (lengths spans) cs)
    (piece_at (λ x. block_bytes w spans ns (piece x size list)) (w * product (lengths spans)) s.lo (extent s) c (block_sizes w s spans n ns list fits is) inside.0)
    ∙ element_block w spans ns (piece (s.lo + c) size list) cs fits.2 (piece_whole w (s.lo + c) n ns list (omega (arith, inside.0, fits.1, fits.0)) is) inside.1
