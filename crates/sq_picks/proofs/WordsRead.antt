-- Words of a text, byte by byte.
use Rattle.std.proofs.Common.{◌≡◌, ℕ, zero, suc, ◌+◌, ◌-◌, ◌*◌, ◌<◌, ◌≤◌, Bool, true, false, cond, List, [], ◌∷◌, ◌++◌, Option, Some, length, take, drop, slice_index_or, refl, sym, ap, ◌∙◌, subst, arith}
use Rattle.std.specs.List.{fold}
use Rattle.sq_text.specs.declared.place.Place.{Place}
use Rattle.sq_text.specs.Places.{place_after}
use Rattle.sq_picks.specs.declared.picks.Begun.{Begun}
use Rattle.sq_picks.specs.OrderList.{is_blank, Spotted, words_from, closed, longer, with_digit, number, behind, picks_of, begun_word, left}

number_grows : (bs : List ℕ) (n : ℕ) → n ≤ fold with_digit n bs
number_grows [] n = omega arith
number_grows (b ∷ bs) n = let more = number_grows bs (with_digit n b) in omega (arith, more)

-- the byte of this number is the first of those that are left
byte_at : (xs : List ℕ) (i : ℕ) → i < length xs → drop i xs ≡ slice_index_or xs i 0 ∷ drop (suc i) xs
byte_at [] i lt = absurd (omega (arith, lt))
byte_at (x ∷ xs) zero lt = refl
byte_at (x ∷ xs) (suc i) lt = byte_at xs i (omega (arith, lt))

-- a number that is too great stays so
pub too_great : (digits : List ℕ) (i n : ℕ) → i < length digits → fold with_digit n (drop i digits) ≡ number digits → 4294967295 < with_digit n (slice_index_or digits i 0)
    → 4294967295 < number digits
too_great digits i n lt same great =
    let whole : fold with_digit (with_digit n (slice_index_or digits i 0)) (drop (suc i) digits) ≡ number digits = sym (ap (fold with_digit n) (byte_at digits i lt)) ∙ same in
    let more = number_grows (drop (suc i) digits) (with_digit n (slice_index_or digits i 0)) in
    omega (arith, whole, more, great)

one_longer : (xs : List ℕ) (i : ℕ) → i < length xs → take i xs ++ slice_index_or xs i 0 ∷ [] ≡ take (suc i) xs
one_longer [] i lt = absurd (omega (arith, lt))
one_longer (x ∷ xs) zero lt = refl
one_longer (x ∷ xs) (suc i) lt = ap (λ ys. x ∷ ys) (one_longer xs i (omega (arith, lt)))

part_longer : (xs : List ℕ) (f i : ℕ) → f ≤ i → i < length xs → take (i - f) (drop f xs) ++ slice_index_or xs i 0 ∷ [] ≡ take (suc i - f) (drop f xs)
part_longer xs zero i le lt =
    let whole : i - 0 ≡ i = omega arith in
    let next : suc i - 0 ≡ suc i = omega arith in
    ap (λ k. take k xs ++ slice_index_or xs i 0 ∷ []) whole ∙ (one_longer xs i lt ∙ sym (ap (λ k. take k xs) next))
part_longer [] (suc f) i le lt = absurd (omega (arith, lt))
part_longer (x ∷ xs) (suc f) zero le lt = absurd (omega (arith, le))
part_longer (x ∷ xs) (suc f) (suc i) le lt =
    let whole : suc i - suc f ≡ i - f = omega arith in
    let next : suc (suc i) - suc f ≡ suc i - f = omega arith in
    ap (λ k. take k (drop f xs) ++ slice_index_or xs i 0 ∷ []) whole
    ∙ (part_longer xs f i (omega (arith, le)) (omega (arith, lt)) ∙ sym (ap (λ k. take k (drop f xs)) next))

no_blank : (b : Bool) (x y : List Spotted) → b ≡ false → cond b x y ≡ y
no_blank true x y e = absurd (cc e)
no_blank false x y e = refl

-- a byte that is no blank makes a word longer that has begun
pub word_goes_on : (text : List ℕ) (i : ℕ) (p : Place) (w : Begun) (ns : List ℕ) → i < length text → w.from < i → is_blank (slice_index_or text i 0) ≡ false
    → left text i p (Some w) ns ≡ left text (i + 1) (place_after p (slice_index_or text i 0)) (Some w) ns
word_goes_on text i p w ns lt begun solid =
    let b = slice_index_or text i 0 in
    let one : suc i ≡ i + 1 = omega arith in
    ap (λ bs. behind ns (picks_of (words_from p (begun_word text (Some w) i) bs))) (byte_at text i lt)
    ∙ (ap (λ ws. behind ns (picks_of ws)) (no_blank (is_blank b) _ _ solid)
    ∙ (ap (λ bytes. behind ns (picks_of (words_from (place_after p b) (Some (record { place = w.place; bytes = bytes })) (drop (suc i) text)))) (part_longer text w.from i (omega (arith, begun)) lt)
    ∙ ap (λ k. behind ns (picks_of (words_from (place_after p b) (Some (record { place = w.place; bytes = take (k - w.from) (drop w.from text) })) (drop k text)))) one))
