-- What is read is of the type.
use Rattle.std.proofs.Common.{◌≡◌, ℕ, zero, suc, ◌+◌, ◌<◌, ◌≤◌, Bool, true, false, cond, List, [], ◌∷◌, length, refl, ap, subst, arith, Result, Ok, Err, ℤ}
use Rattle.std.specs.Prelude.{pos, All}
use Rattle.std.proofs.lemmas.Int.{ints}
use Rattle.std.proofs.lemmas.Bool.{leb-true}
use Rattle.std.proofs.lemmas.List.Elements.{All-nil, All-cons}
use Rattle.sq_num.specs.declared.Elem.{Elem}
use Rattle.sq_num.specs.declared.Elem.TheVariants.{Byte, Int, Long}
use Rattle.sq_num.specs.Elements.{least, greatest, IsValue}
use Rattle.sq_arrays.specs.declared.refusal.InputCode.{InputCode}
use Rattle.sq_arrays.specs.declared.refusal.InputCode.TheVariants.{Syntax, Range, Short}
use Rattle.sq_arrays.specs.ArrayText.{Fault, Rest, Word, next_word, value_of, with_place, next_value, next_values, fits, signed, same_text, array_word, is_number, is_minus, number_of, digits_of, ◌>>=◌}
use Rattle.sq_arrays.proofs.Adding.{consed}

in_range : (e : Elem) (minus : Bool) (n : ℕ) → fits e minus n ≡ true → IsValue e (signed minus n)
unfolding least greatest
in_range Byte true n h = let k : n ≤ 0 = leb-true n 0 h in record { low = omega (arith, ints, k); high = omega (arith, ints, k) }
in_range Byte false n h = let k : n ≤ 255 = leb-true n 255 h in record { low = omega (arith, ints, k); high = omega (arith, ints, k) }
in_range Int true n h = let k : n ≤ 2147483648 = leb-true n 2147483648 h in record { low = omega (arith, ints, k); high = omega (arith, ints, k) }
in_range Int false n h = let k : n ≤ 2147483647 = leb-true n 2147483647 h in record { low = omega (arith, ints, k); high = omega (arith, ints, k) }
in_range Long true n h = let k : n ≤ 9223372036854775808 = leb-true n 9223372036854775808 h in record { low = omega (arith, ints, k); high = omega (arith, ints, k) }
in_range Long false n h = let k : n ≤ 9223372036854775807 = leb-true n 9223372036854775807 h in record { low = omega (arith, ints, k); high = omega (arith, ints, k) }

-- a number that fits has 64 bits
pub fits_within : (e : Elem) (minus : Bool) (n : ℕ) → fits e minus n ≡ true → n < cond minus 9223372036854775808 9223372036854775807 + 1
unfolding least greatest
fits_within Byte true n h = let k : n ≤ 0 = leb-true n 0 h in omega (arith, k)
fits_within Byte false n h = let k : n ≤ 255 = leb-true n 255 h in omega (arith, k)
fits_within Int true n h = let k : n ≤ 2147483648 = leb-true n 2147483648 h in omega (arith, k)
fits_within Int false n h = let k : n ≤ 2147483647 = leb-true n 2147483647 h in omega (arith, k)
fits_within Long true n h = let k : n ≤ 9223372036854775808 = leb-true n 9223372036854775808 h in omega (arith, k)
fits_within Long false n h = let k : n ≤ 9223372036854775807 = leb-true n 9223372036854775807 h in omega (arith, k)

picked : (a b c : Bool) (v w : ℤ) → cond {A = Result ℤ InputCode} a (Err Short) (cond b (cond c (Ok v) (Err Range)) (Err Syntax)) ≡ Ok w → (c ≡ true) × (v ≡ w)
picked true b c v w h = cc
picked false false c v w h = cc
picked false true false v w h = cc
picked false true true v w h = (refl, cc)

pub value-in_type : (e : Elem) (w : List ℕ) (v : ℤ) → value_of e w ≡ Ok v → IsValue e v
unfolding value_of
value-in_type e w v h =
    let p = picked (same_text w array_word) (is_number w) (fits e (is_minus w) (number_of 0 (digits_of w))) (signed (is_minus w) (number_of 0 (digits_of w))) v h in
    subst (λ (x : ℤ). IsValue e x) p.1 (in_range e (is_minus w) (number_of 0 (digits_of w)) p.0)

abbrev first_of : Result (ℤ × Rest) Fault → ℤ
first_of (Ok x) = x.0
first_of (Err f) = pos 0

placed_value : (e : Elem) (w : Word) (r : Result ℤ InputCode) (v : ℤ) (now : Rest) → value_of e w.bytes ≡ r → with_place w r ≡ Ok (v, now) → IsValue e v
placed_value e w (Err code) v now is h = cc
placed_value e w (Ok x) v now is h = subst (λ (y : ℤ). IsValue e y) (ap first_of h) (value-in_type e w.bytes x is)

-- the value that a word gave
word_value : (e : Elem) (word : Result Word Fault) (v : ℤ) (now : Rest) → (word >>= λ w. with_place w (value_of e w.bytes)) ≡ Ok (v, now) → IsValue e v
word_value e (Err f) v now h = cc
word_value e (Ok w) v now h = placed_value e w (value_of e w.bytes) v now refl h

-- all values of so many are of the type, and there are as many
pub record AreValues (e : Elem) (n : ℕ) (vs : List ℤ) : Type 0 where
  pub each : All (IsValue e) vs
  pub count : length vs ≡ n

abbrev listed : Result (List ℤ × Rest) Fault → List ℤ
listed (Ok x) = x.0
listed (Err f) = []

no_values : (e : Elem) → AreValues e 0 []
no_values e = record { each = All-nil (IsValue e); count = refl }

more_values : (e : Elem) (n : ℕ) (v : ℤ) (xs : List ℤ) → IsValue e v → AreValues e n xs → AreValues e (suc n) (v ∷ xs)
more_values e n v xs good are = record { each = All-cons (IsValue e) v xs good are.each; count = ap suc are.count }

rest_values : (n : ℕ) (e : Elem) (v : ℤ) (rest : Result (List ℤ × Rest) Fault) (vs : List ℤ) (now : Rest) → IsValue e v
    → ((xs : List ℤ) (then : Rest) → rest ≡ Ok (xs, then) → AreValues e n xs) → consed v rest ≡ Ok (vs, now) → AreValues e (suc n) vs
rest_values n e v (Err f) vs now good are h = cc
rest_values n e v (Ok x) vs now good are h = subst (λ (l : List ℤ). AreValues e (suc n) l) (ap listed h) (more_values e n v x.0 good (are x.0 x.1 refl))

first_value : (n : ℕ) (e : Elem) (r : Rest) (one : Result (ℤ × Rest) Fault) (vs : List ℤ) (now : Rest) → next_value e r ≡ one
    → ((then last : Rest) (xs : List ℤ) → next_values n e then ≡ Ok (xs, last) → AreValues e n xs)
    → (one >>= λ v. consed v.0 (next_values n e v.1)) ≡ Ok (vs, now) → AreValues e (suc n) vs
first_value n e r (Err f) vs now is are h = cc
first_value n e r (Ok v) vs now is are h =
    rest_values n e v.0 (next_values n e v.1) vs now (word_value e (next_word r) v.0 v.1 is) (λ xs last. are v.1 last xs) h

pub next_values-in_type : (n : ℕ) (e : Elem) (r now : Rest) (vs : List ℤ) → next_values n e r ≡ Ok (vs, now) → AreValues e n vs
next_values-in_type zero e r now vs h = subst (λ (l : List ℤ). AreValues e 0 l) (ap listed h) (no_values e)
next_values-in_type (suc n) e r now vs h = first_value n e r (next_value e r) vs now refl (next_values-in_type n e) h
