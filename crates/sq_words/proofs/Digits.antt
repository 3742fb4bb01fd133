-- Numbers of digits, digit by digit.
use Rattle.std.proofs.Common.{◌≡◌, ℕ, zero, suc, ◌<◌, ◌≤◌, ◌^◌, List, [], ◌∷◌, length, drop, slice_index_or, refl, sym, ap, ◌∙◌, arith}
use Rattle.std.specs.List.{fold}
use Rattle.sq_words.specs.Words.{with_digit, number}

number_grows : (bs : List ℕ) (n : ℕ) → n ≤ fold with_digit n bs
number_grows [] n = omega arith
number_grows (b ∷ bs) n = let more = number_grows bs (with_digit n b) in omega (arith, more)

-- the byte of this number is the first of those that are left
byte_at : (xs : List ℕ) (i : ℕ) → i < length xs → drop i xs ≡ slice_index_or xs i 0 ∷ drop (suc i) xs
byte_at [] i lt = absurd (omega (arith, lt))
byte_at (x ∷ xs) zero lt = refl
byte_at (x ∷ xs) (suc i) lt = byte_at xs i (omega (arith, lt))

-- a number that is too great stays so
pub too_great : (digits : List ℕ) (i n : ℕ) → i < length digits → fold with_digit n (drop i digits) ≡ number digits → ¬ (with_digit n (slice_index_or digits i 0) < 2 ^ 64) → ¬ (number digits < 2 ^ 64)
too_great digits i n lt same great small =
    let whole : fold with_digit (with_digit n (slice_index_or digits i 0)) (drop (suc i) digits) ≡ number digits = sym (ap (fold with_digit n) (byte_at digits i lt)) ∙ same in
    let more = number_grows (drop (suc i) digits) (with_digit n (slice_index_or digits i 0)) in
    great (omega (arith, whole, more, small))
