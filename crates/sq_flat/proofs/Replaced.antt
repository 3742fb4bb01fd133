-- The elements of an array with a block replaced.
use Rattle.std.proofs.Common.{arith, ◌≡◌, ◌∙◌, sym, ap, subst, refl, ℕ, zero, suc, ◌+◌, ◌-◌, ◌*◌, ◌<◌, ◌≤◌, nat_le, nat_lt, Bool, true, false, ◌&&◌, List, [], ◌∷◌, ◌++◌, length, take, drop}
use Rattle.std.proofs.lemmas.Bool.Decides.{nat_tests}
use Rattle.std.proofs.lemmas.List.{length-take-le, length-drop, drop-take}
use Rattle.std.proofs.lemmas.Slice.{take-put_mid_below, drop-put_mid}
use Rattle.std.proofs.Math.Nat.{mul-le-mul_right}
use Rattle.std.proofs.Math.Seq.{take-append_seam, drop-append_seam}
use borrow.Rule.Slice.PartMut.{same_len_mid}
use Rattle.sq_text.specs.declared.place.Span.{Span}
use Rattle.sq_rect.specs.Extents.{product}
use Rattle.sq_rect.specs.Placing.{IsIn}
use Rattle.sq_blocks.specs.Arguments.{lengths}
use Rattle.sq_work.specs.Meaning.{in_block, covers}
use Rattle.sq_rect.specs.Blocks.{extent}
use Rattle.sq_flat.specs.Blocks.{Fits, piece, element, put_piece, with_pieces, with_bytes}
use Rattle.sq_flat.proofs.Elements.{length_piece, piece_whole}

-- ---- one piece

pub piece_same : (x size : ℕ) (p list : List ℕ) → length p ≡ size → x * size ≤ length list → piece x size (put_piece x size p list) ≡ p
piece_same x size p list is room =
    let before : List ℕ = take (x * size) list in
    let behind : List ℕ = drop size (drop (x * size) list) in
    let long : length before ≡ x * size = length-take-le (x * size) list room in
    ap (take size) (ap (λ (z : ℕ). drop z (before ++ (p ++ behind))) (sym long) ∙ drop-append_seam before (p ++ behind))
    ∙ (ap (λ (z : ℕ). take z (p ++ behind)) (sym is) ∙ take-append_seam p behind)

pub piece_above : (x y size : ℕ) (p list : List ℕ) → x < y → length p ≡ size → x * size ≤ length list → piece y size (put_piece x size p list) ≡ piece y size list
piece_above x y size p list above is room =
    let past : suc x * size ≤ y * size = mul-le-mul_right size above in
    ap (take size) (drop-put_mid (x * size) size list p (y * size) (omega (arith, past)) room is)

pub piece_below : (x y size : ℕ) (p list : List ℕ) → y < x → x * size ≤ length list → piece y size (put_piece x size p list) ≡ piece y size list
piece_below x y size p list below room =
    let before : suc y * size ≤ x * size = mul-le-mul_right size below in
    sym (drop-take (y * size) size (put_piece x size p list))
    ∙ (ap (drop (y * size)) (take-put_mid_below (x * size) size list p (y * size + size) (omega (arith, before)) room)
    ∙ drop-take (y * size) size list)

pub length_put : (x size : ℕ) (p list : List ℕ) → length p ≡ size → suc x * size ≤ length list → length (put_piece x size p list) ≡ length list
length_put x size p list is room =
    same_len_mid (x * size) size list p (is ∙ sym (length-take-le size (drop (x * size) list) (subst (λ (z : ℕ). size ≤ z) (sym (length-drop (x * size) list)) (omega (arith, room)))))

-- ---- pieces

-- the pieces with these numbers keep their size
pub record KeepSize (change : ℕ → List ℕ → List ℕ) (size lo n : ℕ) : Type 0 where
  pub each : (x : ℕ) (p : List ℕ) → lo ≤ x → x < lo + n → length p ≡ size → length (change x p) ≡ size

keep_later : (change : ℕ → List ℕ → List ℕ) (size lo n : ℕ) → KeepSize change size lo (suc n) → KeepSize change size (lo + 1) n
keep_later change size lo n keep = record { each = λ x p from below is. keep.each x p (omega (arith, from)) (omega (arith, below)) is }

-- the list has so many pieces, and those to be changed are among them
pub record HasPieces (all size lo n : ℕ) (list : List ℕ) : Type 0 where
  pub long : length list ≡ all * size
  pub within : lo + n ≤ all

first_kept : (change : ℕ → List ℕ → List ℕ) (size lo n all : ℕ) (list : List ℕ) → KeepSize change size lo (suc n) → HasPieces all size lo (suc n) list → length (change lo (piece lo size list)) ≡ size
first_kept change size lo n all list keep has = keep.each lo (piece lo size list) (omega arith) (omega arith) (length_piece lo all size list (omega (arith, has.within)) has.long)

room_for : (size lo n all : ℕ) (list : List ℕ) → HasPieces all size lo (suc n) list → suc lo * size ≤ length list
room_for size lo n all list has =
    let room : suc lo * size ≤ all * size = mul-le-mul_right size (omega (arith, has.within)) in
    omega (arith, room, has.long)

has_later : (change : ℕ → List ℕ → List ℕ) (size lo n all : ℕ) (list : List ℕ) → KeepSize change size lo (suc n) → HasPieces all size lo (suc n) list
    → HasPieces all size (lo + 1) n (put_piece lo size (change lo (piece lo size list)) list)
has_later change size lo n all list keep has = record {
  long = length_put lo size _ list (first_kept change size lo n all list keep has) (room_for size lo n all list has) ∙ has.long;
  within = omega (arith, has.within);
}

pub length_changed : (change : ℕ → List ℕ → List ℕ) (size lo n all : ℕ) (list : List ℕ) → KeepSize change size lo n → HasPieces all size lo n list → length (with_pieces change size n lo list) ≡ length list
length_changed change size lo zero all list keep has = refl
length_changed change size lo (suc n) all list keep has =
    length_changed change size (lo + 1) n all _ (keep_later change size lo n keep) (has_later change size lo n all list keep has)
    ∙ length_put lo size _ list (first_kept change size lo n all list keep has) (room_for size lo n all list has)

pub piece_before : (change : ℕ → List ℕ → List ℕ) (size lo n all y : ℕ) (list : List ℕ) → KeepSize change size lo n → HasPieces all size lo n list → y < lo
    → piece y size (with_pieces change size n lo list) ≡ piece y size list
piece_before change size lo zero all y list keep has before = refl
piece_before change size lo (suc n) all y list keep has before =
    piece_before change size (lo + 1) n all y _ (keep_later change size lo n keep) (has_later change size lo n all list keep has) (omega (arith, before))
    ∙ piece_below lo y size _ list before (omega (arith, room_for size lo n all list has))

pub piece_past : (change : ℕ → List ℕ → List ℕ) (size lo n all y : ℕ) (list : List ℕ) → KeepSize change size lo n → HasPieces all size lo n list → lo + n ≤ y
    → piece y size (with_pieces change size n lo list) ≡ piece y size list
piece_past change size lo zero all y list keep has past = refl
piece_past change size lo (suc n) all y list keep has past =
    piece_past change size (lo + 1) n all y _ (keep_later change size lo n keep) (has_later change size lo n all list keep has) (omega (arith, past))
    ∙ piece_above lo y size _ list (omega (arith, past)) (first_kept change size lo n all list keep has) (omega (arith, room_for size lo n all list has))

pub piece_changed : (change : ℕ → List ℕ → List ℕ) (size lo n all k : ℕ) (list : List ℕ) → KeepSize change size lo n → HasPieces all size lo n list → k < n
    → piece (lo + k) size (with_pieces change size n lo list) ≡ change (lo + k) (piece (lo + k) size list)
piece_changed change size lo zero all k list keep has below = absurd (omega (arith, below))
piece_changed change size lo (suc n) all zero list keep has below =
    let here : lo + 0 ≡ lo = omega arith in
    let put : List ℕ = put_piece lo size (change lo (piece lo size list)) list in
    ap (λ (y : ℕ). piece y size (with_pieces change size n (lo + 1) put)) here
    ∙ (piece_before change size (lo + 1) n all lo put (keep_later change size lo n keep) (has_later change size lo n all list keep has) (omega arith)
    ∙ (piece_same lo size (change lo (piece lo size list)) list (first_kept change size lo n all list keep has) (omega (arith, room_for size lo n all list has))
    ∙ ap (λ (y : ℕ). change y (piece y size list)) (sym here)))
piece_changed change size lo (suc n) all (suc k) list keep has below =
    let there : lo + suc k ≡ lo + 1 + k = omega arith in
    let put : List ℕ = put_piece lo size (change lo (piece lo size list)) list in
    ap (λ (y : ℕ). piece y size (with_pieces change size n (lo + 1) put)) there
    ∙ (piece_changed change size (lo + 1) n all k put (keep_later change size lo n keep) (has_later change size lo n all list keep has) (omega (arith, below))
    ∙ (ap (change (lo + 1 + k)) (piece_above lo (lo + 1 + k) size _ list (omega arith) (first_kept change size lo n all list keep has) (omega (arith, room_for size lo n all list has)))
    ∙ ap (λ (y : ℕ). change y (piece y size list)) (sym there)))

-- ---- blocks

abbrev pub block_change : ℕ → Span → List Span → List ℕ → List ℕ → ℕ → List ℕ → List ℕ
block_change w s spans ns block x = with_bytes w spans ns (piece (x - s.lo) (w * product (lengths spans)) block)

-- the block's bytes are those of its extents
pub length_with : (w : ℕ) (spans : List Span) (ns block list : List ℕ) → Fits spans ns → length block ≡ w * product (lengths spans) → length list ≡ w * product ns
    → length (with_bytes w spans ns block list) ≡ length list
length_with w [] [] block list fits is whole = is ∙ sym whole
length_with w [] (n ∷ ns) block list fits is whole = absurd fits
length_with w (s ∷ spans) [] block list fits is whole = absurd fits
length_with w (s ∷ spans) (n ∷ ns) block list fits is whole =
    let size : ℕ = w * product ns in
    let up : s.lo + extent s ≤ n = omega (arith, fits.0, fits.1) in
    let pieces : length block ≡ extent s * (w * product (lengths spans)) = omega (arith, is) in
    length_changed (block_change w s spans ns block) size s.lo (extent s) n list
    (record {
      each = λ x p from below long.
          length_with w spans ns (piece (x - s.lo) (w * product (lengths spans)) block) p fits.2
          (length_piece (x - s.lo) (extent s) (w * product (lengths spans)) block (omega (arith, from, below)) pieces) long
          ∙ long;
    })
    (record { long = omega (arith, whole); within = up })

block_keeps : (w : ℕ) (s : Span) (spans : List Span) (ns block : List ℕ) → Fits spans ns → length block ≡ extent s * (w * product (lengths spans))
    → KeepSize (block_change w s spans ns block) (w * product ns) s.lo (extent s)
block_keeps w s spans ns block fits pieces = record {
  each = λ x p from below long.
      length_with w spans ns (piece (x - s.lo) (w * product (lengths spans)) block) p fits
      (length_piece (x - s.lo) (extent s) (w * product (lengths spans)) block (omega (arith, from, below)) pieces) long
      ∙ long;
}

pub element_in : (w : ℕ) (spans : List Span) (ns block list cs : List ℕ) → Fits spans ns → length block ≡ w * product (lengths spans) → length list ≡ w * product ns
    → IsIn ns cs → covers spans cs ≡ true → element w ns cs (with_bytes w spans ns block list) ≡ element w (lengths spans) (in_block spans cs) block
element_in w [] [] block list [] fits is whole inside within = refl
element_in w [] [] block list (c ∷ cs) fits is whole inside within = absurd inside
element_in w [] (n ∷ ns) block list cs fits is whole inside within = absurd fits
element_in w (s ∷ spans) [] block list cs fits is whole inside within = absurd fits
element_in w (s ∷ spans) (n ∷ ns) block list [] fits is whole inside within = absurd inside
element_in w (s ∷ spans) (n ∷ ns) block list (c ∷ cs) fits is whole inside within =
    let size : ℕ = w * product ns in
    let from : s.lo ≤ c = grind (arith, nat_tests, within) in
    let below : c < s.hi = grind (arith, nat_tests, within) in
    let rest : covers spans cs ≡ true = grind (arith, nat_tests, within) in
    let here : s.lo + (c - s.lo) ≡ c = omega (arith, from) in
    let pieces : length block ≡ extent s * (w * product (lengths spans)) = omega (arith, is) in
    let changed : piece c size (with_bytes w (s ∷ spans) (n ∷ ns) block list) ≡ block_change w s spans ns block c (piece c size list) =
    subst (λ (y : ℕ). piece y size (with_bytes w (s ∷ spans) (n ∷ ns) block list) ≡ block_change w s spans ns block y (piece y size list)) here
    (piece_changed (block_change w s spans ns block) size s.lo (extent s) n (c - s.lo) list (block_keeps w s spans ns block fits.2 pieces)
    (record { long = omega (arith, whole); within = omega (arith, fits.0, fits.1) }) (omega (arith, from, below))) in
    ap (element w ns cs) changed
    ∙ element_in w spans ns (piece (c - s.lo) (w * product (lengths spans)) block) (piece c size list) cs fits.2
    (length_piece (c - s.lo) (extent s) (w * product (lengths spans)) block (omega (arith, from, below)) pieces)
    (piece_whole w c n ns list inside.0 whole) inside.1 rest

-- where the first coordinate is in the block or not
out_by : (a b : Bool) (w : ℕ) (s : Span) (spans : List Span) (n : ℕ) (ns block list : List ℕ) (c : ℕ) (cs : List ℕ) → nat_le s.lo c ≡ a → nat_lt c s.hi ≡ b
    → Fits (s ∷ spans) (n ∷ ns) → length block ≡ w * product (lengths (s ∷ spans)) → length list ≡ w * product (n ∷ ns) → (a && (b && covers spans cs)) ≡ false
    → ((part : List ℕ) → length part ≡ w * product (lengths spans) → covers spans cs ≡ false
    → element w ns cs (with_bytes w spans ns part (piece c (w * product ns) list)) ≡ element w ns cs (piece c (w * product ns) list))
    → element w (n ∷ ns) (c ∷ cs) (with_bytes w (s ∷ spans) (n ∷ ns) block list) ≡ element w (n ∷ ns) (c ∷ cs) list
out_by false b w s spans n ns block list c cs low high fits is whole without next =
    let pieces : length block ≡ extent s * (w * product (lengths spans)) = omega (arith, is) in
    ap (element w ns cs)
    (piece_before (block_change w s spans ns block) (w * product ns) s.lo (extent s) n c list (block_keeps w s spans ns block fits.2 pieces)
    (record { long = omega (arith, whole); within = omega (arith, fits.0, fits.1) }) (grind (arith, nat_tests, low)))
out_by true false w s spans n ns block list c cs low high fits is whole without next =
    let pieces : length block ≡ extent s * (w * product (lengths spans)) = omega (arith, is) in
    let past : s.hi ≤ c = grind (arith, nat_tests, high) in
    ap (element w ns cs)
    (piece_past (block_change w s spans ns block) (w * product ns) s.lo (extent s) n c list (block_keeps w s spans ns block fits.2 pieces)
    (record { long = omega (arith, whole); within = omega (arith, fits.0, fits.1) }) (omega (arith, past, fits.0)))
out_by true true w s spans n ns block list c cs low high fits is whole without next =
    let size : ℕ = w * product ns in
    let from : s.lo ≤ c = grind (arith, nat_tests, low) in
    let below : c < s.hi = grind (arith, nat_tests, high) in
    let here : s.lo + (c - s.lo) ≡ c = omega (arith, from) in
    let pieces : length block ≡ extent s * (w * product (lengths spans)) = omega (arith, is) in
    let changed : piece c size (with_bytes w (s ∷ spans) (n ∷ ns) block list) ≡ block_change w s spans ns block c (piece c size list) =
    subst (λ (y : ℕ). piece y size (with_bytes w (s ∷ spans) (n ∷ ns) block list) ≡ block_change w s spans ns block y (piece y size list)) here
    (piece_changed (block_change w s spans ns block) size s.lo (extent s) n (c - s.lo) list (block_keeps w s spans ns block fits.2 pieces)
    (record { long = omega (arith, whole); within = omega (arith, fits.0, fits.1) }) (omega (arith, from, below))) in
    ap (element w ns cs) changed
    ∙ next (piece (c - s.lo) (w * product (lengths spans)) block) (length_piece (c - s.lo) (extent s) (w * product (lengths spans)) block (omega (arith, from, below)) pieces) without

pub element_out : (w : ℕ) (spans : List Span) (ns block list cs : List ℕ) → Fits spans ns → length block ≡ w * product (lengths spans) → length list ≡ w * product ns
    → IsIn ns cs → covers spans cs ≡ false → element w ns cs (with_bytes w spans ns block list) ≡ element w ns cs list
element_out w [] [] block list [] fits is whole inside without = grind (arith, without)
element_out w [] [] block list (c ∷ cs) fits is whole inside without = absurd inside
element_out w [] (n ∷ ns) block list cs fits is whole inside without = absurd fits
element_out w (s ∷ spans) [] block list cs fits is whole inside without = absurd fits
element_out w (s ∷ spans) (n ∷ ns) block list [] fits is whole inside without = absurd inside
element_out w (s ∷ spans) (n ∷ ns) block list (c ∷ cs) fits is whole inside without =
    out_by (nat_le s.lo c) (nat_lt c s.hi) w s spans n ns block list c cs refl refl fits is whole without
    (λ part long rest. element_out w spans ns part (piece c (w * product ns) list) cs fits.2 long (piece_whole w c n ns list inside.0 whole) inside.1 rest)
