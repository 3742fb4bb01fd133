-- Whether there are more levels than so many, from the limit down.
use Rattle.std.proofs.Common.{◌≡◌, ◌≢◌, ℕ, zero, suc, ◌-◌, ◌<◌, Bool, true, false, List, [], ◌∷◌, length, get_or, map, refl, sym, ap, ◌∙◌, arith}
use Rattle.std.specs.Prelude.{nat_lt, max}
use Rattle.std.proofs.lemmas.Bool.{lt-ltb, ltb-true, ltb-false}
use Rattle.sq_plantext.specs.declared.text.TermText.{TermText}
use Rattle.sq_planfile.specs.Limits.{greatest, depth}

-- the two tests agree where each follows from the other
both : (a b c d : ℕ) → (a < b → c < d) → (c < d → a < b) → nat_lt a b ≡ nat_lt c d
both a b c d f g = by (nat_lt a b) (nat_lt c d) refl refl
  where
    by : (u v : Bool) → nat_lt a b ≡ u → nat_lt c d ≡ v → u ≡ v
    by true true p q = refl
    by false false p q = refl
    by true false p q = let l = f (ltb-true a b p) in let h = ltb-false c d q in absurd (omega (arith, l, h))
    by false true p q = let l = g (ltb-true c d q) in let h = ltb-false a b p in absurd (omega (arith, l, h))

pub one_less : (k d : ℕ) → k ≢ 0 → nat_lt (k - 1) d ≡ nat_lt k (suc d)
one_less k d h = both (k - 1) d k (suc d) (λ l. omega (arith, l)) (λ l. omega (arith, l, h))

pub none_left : (k d : ℕ) → k ≡ 0 → nat_lt k (suc d) ≡ true
none_left k d e = lt-ltb k (suc d) (omega (arith, e))

pub first_deeper : (k a b : ℕ) → nat_lt k a ≡ true → nat_lt k (max a b) ≡ true
first_deeper k a b h = let l = ltb-true k a h in lt-ltb k (max a b) (omega (arith, l))

pub last_deeper : (k a b : ℕ) → nat_lt k b ≡ true → nat_lt k (max a b) ≡ true
last_deeper k a b h = let l = ltb-true k b h in lt-ltb k (max a b) (omega (arith, l))

pub first_passed : (k a b : ℕ) → nat_lt k a ≡ false → nat_lt k (max a b) ≡ nat_lt k b
first_passed k a b h = let l = ltb-false k a h in both k (max a b) k b (λ m. omega (arith, l, m)) (λ m. omega (arith, m))

-- one of some parts has more levels
pub any_found : (k : ℕ) (xs : List TermText) (i : ℕ) (x : TermText) → i < length xs → x ≡ get_or xs i x → nat_lt k (depth x) ≡ true → nat_lt k (greatest (map depth xs)) ≡ true
any_found k [] i x lt e h = absurd (omega arith)
any_found k (y ∷ xs) zero x lt e h = first_deeper k (depth y) (greatest (map depth xs)) (ap (λ z. nat_lt k (depth z)) (sym e) ∙ h)
any_found k (y ∷ xs) (suc i) x lt e h = last_deeper k (depth y) (greatest (map depth xs)) (any_found k xs i x (omega (arith, lt)) e h)
