-- One piece more, and what a block's first span says of the pieces.
use Rattle.std.proofs.Common.{arith, ◌≡◌, ◌∙◌, sym, ap, subst, ℕ, suc, ◌+◌, ◌-◌, ◌*◌, ◌<◌, ◌≤◌, List, ◌∷◌, ◌++◌, length}
use Rattle.std.specs.List.{flat_map, range_with_len}
use Rattle.std.proofs.lemmas.List.{append_assoc}
use Rattle.std.proofs.Math.Nat.{mul-le-mul_right}
use Rattle.sq_text.specs.declared.place.Span.{Span}
use Rattle.sq_rect.specs.Extents.{product}
use Rattle.sq_flat.specs.Blocks.{Fits, piece, block_bytes, pieces_bytes, with_pieces, with_bytes, pieces_put}
use Rattle.sq_blocks.specs.Arguments.{lengths}
use borrow.Rule.Slice.PartMut.{put_mid}

pub next_piece : (f : ℕ → List ℕ) (old new end : List ℕ) (x hi : ℕ) → x < hi → new ≡ old ++ f x → old ++ flat_map f (range_with_len x (hi - x)) ≡ end
    → new ++ flat_map f (range_with_len (x + 1) (hi - (x + 1))) ≡ end
next_piece f old new end x hi below more was =
    let left : hi - x ≡ suc (hi - (x + 1)) = omega (arith, below) in
    let rest : List ℕ = flat_map f (range_with_len (x + 1) (hi - (x + 1))) in
    ap (λ (l : List ℕ). l ++ rest) more
    ∙ (append_assoc old (f x) rest
    ∙ (sym (ap (λ (n : ℕ). old ++ flat_map f (range_with_len x n)) left) ∙ was))

-- what the first span and the first extent say of the pieces
pub record IntoPieces (w size : ℕ) (s : Span) (rest : List Span) (more array : List ℕ) : Type 0 where
  pub is : size ≡ w * product more
  pub inside : s.hi * size ≤ length array
  pub within : Fits rest more

pub into_pieces : (w : ℕ) (spans rest : List Span) (s : Span) (ns more : List ℕ) (n size : ℕ) (array : List ℕ) → spans ≡ s ∷ rest → ns ≡ n ∷ more → Fits spans ns
    → length array ≡ w * product ns → ((k : ℕ) → length array ≡ k * n → size ≡ k) → IntoPieces w size s rest more array
into_pieces w spans rest s ns more n size array first second fits whole sized =
    let fit : Fits (s ∷ rest) (n ∷ more) = subst (λ (l : List ℕ). Fits (s ∷ rest) l) second (subst (λ (l : List Span). Fits l ns) first fits) in
    let all : length array ≡ w * (n * product more) = whole ∙ ap (λ (l : List ℕ). w * product l) second in
    let of_pieces : length array ≡ w * product more * n = omega (arith, all) in
    let is : size ≡ w * product more = sized (w * product more) of_pieces in
    let under : s.hi * (w * product more) ≤ n * (w * product more) = mul-le-mul_right (w * product more) fit.1 in
    record {
      is = is;
      inside = subst (λ (z : ℕ). s.hi * z ≤ length array) (sym is) (omega (arith, all, under));
      within = fit.2;
    }

pub pieces_block : (w : ℕ) (spans rest : List Span) (s : Span) (ns more : List ℕ) (n size : ℕ) (array : List ℕ) → spans ≡ s ∷ rest → ns ≡ n ∷ more → size ≡ w * product more
    → pieces_bytes w rest more size array s ≡ block_bytes w spans ns array
pieces_block w spans rest s ns more n size array first second is =
    ap (λ (z : ℕ). pieces_bytes w rest more z array s) is
    ∙ sym (ap (λ (l : List Span). block_bytes w l ns array) first ∙ ap (λ (l : List ℕ). block_bytes w (s ∷ rest) l array) second)

-- a piece more is replaced
pub next_put : (change : ℕ → List ℕ → List ℕ) (size k : ℕ) (array new end : List ℕ) (x hi : ℕ) → x < hi → k ≡ size → new ≡ change x (piece x size array)
    → with_pieces change size (hi - x) x array ≡ end → with_pieces change size (hi - (x + 1)) (x + 1) (put_mid (x * size) k array new) ≡ end
next_put change size k array new end x hi below is changed was =
    let left : hi - x ≡ suc (hi - (x + 1)) = omega (arith, below) in
    ap (λ (z : ℕ). with_pieces change size (hi - (x + 1)) (x + 1) (put_mid (x * size) z array new)) is
    ∙ (ap (λ (p : List ℕ). with_pieces change size (hi - (x + 1)) (x + 1) (put_mid (x * size) size array p)) changed
    ∙ (sym (ap (λ (n : ℕ). with_pieces change size n x array) left) ∙ was))

-- what they say of the pieces of the block
pub block_pieces : (w : ℕ) (spans rest : List Span) (s : Span) (ns : List ℕ) (from : ℕ) (block : List ℕ) → spans ≡ s ∷ rest → Fits spans ns
    → length block ≡ w * product (lengths spans) → ((k : ℕ) → length block ≡ k * (s.hi - s.lo) → from ≡ k)
    → (from ≡ w * product (lengths rest)) × ((s.hi - s.lo) * from ≤ length block)
block_pieces w spans rest s ns from block first fits whole sized =
    let all : length block ≡ w * ((s.hi - s.lo) * product (lengths rest)) = whole ∙ ap (λ (l : List Span). w * product (lengths l)) first in
    let is : from ≡ w * product (lengths rest) = sized (w * product (lengths rest)) (omega (arith, all)) in
    (is, subst (λ (z : ℕ). (s.hi - s.lo) * z ≤ length block) (sym is) (omega (arith, all)))

pub put_whole : (w : ℕ) (spans rest : List Span) (s : Span) (ns more : List ℕ) (n size from : ℕ) (block array : List ℕ) → spans ≡ s ∷ rest → ns ≡ n ∷ more
    → size ≡ w * product more → from ≡ w * product (lengths rest) → pieces_put w rest more size from block s array ≡ with_bytes w spans ns block array
put_whole w spans rest s ns more n size from block array first second is of_block =
    ap (λ (z : ℕ). pieces_put w rest more z from block s array) is
    ∙ (ap (λ (z : ℕ). pieces_put w rest more (w * product more) z block s array) of_block
    ∙ sym (ap (λ (l : List Span). with_bytes w l ns block array) first ∙ ap (λ (l : List ℕ). with_bytes w (s ∷ rest) l block array) second))
