-- Lists without their last items.
use Rattle.std.proofs.Common.{◌≡◌, ℕ, zero, suc, refl, ◌+◌, ◌-◌, ◌<◌, ◌≤◌, List, ◌++◌, ◌∷◌, [], length, take, sym, ◌∙◌, ap, arith}
use Rattle.std.proofs.lemmas.List.{take-append-le, take_all}

-- the first `count` are those of the whole, and as many were taken away as turns were done, counted from `count`
pub record AreFirst (count turn : ℕ) (whole left : List ℕ) : Type 0 where
  pub same : take count left ≡ take count whole
  pub many : length left + turn ≡ length whole + count

append_length : (xs : List ℕ) (x : ℕ) → length (xs ++ x ∷ []) ≡ length xs + 1
append_length [] x = omega arith
append_length (y ∷ xs) x = let e = append_length xs x in omega (arith, e)

take_take : (k n : ℕ) (xs : List ℕ) → k ≤ n → take k (take n xs) ≡ take k xs
take_take zero n xs l = refl
take_take (suc k) zero xs l = absurd (omega (arith, l))
take_take (suc k) (suc n) [] l = refl
take_take (suc k) (suc n) (x ∷ xs) l = ap (λ z. x ∷ z) (take_take k n xs (omega (arith, l)))

length_take : (n : ℕ) (xs : List ℕ) → n ≤ length xs → length (take n xs) ≡ n
length_take zero xs l = refl
length_take (suc n) [] l = absurd (omega (arith, l))
length_take (suc n) (x ∷ xs) l = ap suc (length_take n xs (omega (arith, l)))

module _ (count turn : ℕ) (whole left : List ℕ) where
  -- one item is taken away
  pub one_less : (less : List ℕ) (x : ℕ) → left ≡ less ++ x ∷ [] → turn < length whole → AreFirst count turn whole left → AreFirst count (turn + 1) whole less
  one_less less x is more first =
      let n : length left ≡ length less + 1 = ap (λ (l : List ℕ). length l) is ∙ append_length less x in
      let m = first.many in
      record {
        same = sym (take-append-le count less (x ∷ []) (omega (arith, m, more, n))) ∙ (ap (take count) (sym is) ∙ first.same);
        many = omega (arith, m, n);
      }

  pub none_left : (A : Type 0) → left ≡ [] → count ≤ turn → turn < length whole → AreFirst count turn whole left → A
  none_left A is low more first =
      let n : length left ≡ 0 = ap (λ (l : List ℕ). length l) is in
      let m = first.many in
      absurd (omega (arith, m, n, more))

  pub all_dropped : AreFirst count turn whole left → length whole ≤ turn → left ≡ take count whole
  all_dropped first over = let m = first.many in sym (take_all count left (omega (arith, m, over))) ∙ first.same

  pub one_dropped : (less : List ℕ) → less ≡ take (length left - 1) left → turn < length whole → AreFirst count turn whole left → AreFirst count (turn + 1) whole less
  one_dropped less is more first =
      let m = first.many in
      let n : length less ≡ length left - 1 = ap (λ (l : List ℕ). length l) is ∙ length_take (length left - 1) left (omega arith) in
      record {
        same = ap (take count) is ∙ (take_take count (length left - 1) left (omega (arith, m, more)) ∙ first.same);
        many = omega (arith, m, n, more);
      }
