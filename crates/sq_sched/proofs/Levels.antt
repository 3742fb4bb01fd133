-- The node of a level, found by walking two chains.
use Rattle.std.proofs.Common.{◌≡◌, ℕ, zero, suc, ◌+◌, ◌-◌, ◌<◌, List, [], ◌∷◌, Bool, true, false, length, get_or, refl, sym, ap, ◌∙◌, arith}
use Rattle.std.specs.Prelude.{if◌then◌else◌, nat_lt, nat_eq}
use Rattle.std.proofs.lemmas.Bool.{ltb-true, ltb-false, lt-ltb, le-ltb, eqb-true, eqb-false}
use Rattle.sq_sched.specs.Words.{rest, Sought, Found, Above, below, sought, found, lag}
use Rattle.sq_sched.proofs.Strands.{if-true, if-false}

-- the number at the distance of so many links from the end of a chain of n numbers
abbrev from_end : (xs : List ℕ) → (n k : ℕ) → ℕ
from_end xs n k = if nat_lt n k then 0 else get_or xs (n - k) 0

past : (xs : List ℕ) (n k : ℕ) → n < k → from_end xs n k ≡ 0
past xs n k h = if-true (nat_lt n k) 0 (get_or xs (n - k) 0) (lt-ltb n k h)

at_end : (xs : List ℕ) (n k i : ℕ) → i + k ≡ n → from_end xs n k ≡ get_or xs i 0
at_end xs n k i h =
    let e : n - k ≡ i = omega (arith, h) in
    if-false (nat_lt n k) 0 (get_or xs (n - k) 0) (le-ltb n k (omega (arith, h))) ∙ ap (λ j. get_or xs j 0) e

rest_there : (xs : List ℕ) (i : ℕ) → get_or (rest xs) i 0 ≡ get_or xs (suc i) 0
rest_there [] i = refl
rest_there (x ∷ xs) i = refl

lag_is : (ys : List ℕ) (k : ℕ) (here : List ℕ) → lag ys k here ≡ from_end here (length ys) k
lag_is [] k here = by (nat_eq k 0) refl
  where
    by : (v : Bool) → nat_eq k 0 ≡ v → (if v then get_or here 0 0 else 0) ≡ from_end here 0 k
    by true e = let z = eqb-true k 0 e in sym (at_end here 0 k 0 (omega (arith, z)))
    by false e = let ne = eqb-false k 0 e in sym (past here 0 k (omega (arith, ne)))
lag_is (y ∷ ys) k here = by (nat_eq k 0) refl (lag_is ys 0 (rest here)) (lag_is ys (k - 1) here)
  where
    less : (v : Bool) → nat_lt (length ys) (k - 1) ≡ v → 0 < k → from_end here (length ys) (k - 1) ≡ from_end here (suc (length ys)) k
    less true e pos =
        let lt = ltb-true (length ys) (k - 1) e in
        past here (length ys) (k - 1) lt ∙ sym (past here (suc (length ys)) k (omega (arith, lt, pos)))
    less false e pos =
        let le = ltb-false (length ys) (k - 1) e in
        let i = length ys - (k - 1) in
        at_end here (length ys) (k - 1) i (omega (arith, le)) ∙ sym (at_end here (suc (length ys)) k i (omega (arith, le, pos)))

    by : (v : Bool) → nat_eq k 0 ≡ v → lag ys 0 (rest here) ≡ from_end (rest here) (length ys) 0
        → lag ys (k - 1) here ≡ from_end here (length ys) (k - 1)
        → (if v then lag ys 0 (rest here) else lag ys (k - 1) here) ≡ from_end here (suc (length ys)) k
    by true e first later =
        let z = eqb-true k 0 e in
        first ∙ at_end (rest here) (length ys) 0 (length ys) (omega arith) ∙ rest_there here (length ys) ∙ sym (at_end here (suc (length ys)) k (suc (length ys)) (omega (arith, z)))
    by false e first later =
        let ne = eqb-false k 0 e in
        later ∙ less (nat_lt (length ys) (k - 1)) refl (omega (arith, ne))

-- the search counts from the inside
found_is : (xs : List ℕ) (l : ℕ) → sought xs l ≡ (if nat_lt l (length xs) then Found (get_or xs (length xs - suc l) 0) else Above (l - length xs))
found_is [] l =
    let e : l - 0 ≡ l = omega arith in
    sym (if-false (nat_lt l 0) (Found (get_or {A = ℕ} [] (0 - suc l) 0)) (Above (l - 0)) (le-ltb l 0 (omega arith)) ∙ ap Above e)
found_is (x ∷ xs) l = ap (below x) (found_is xs l) ∙ by (nat_lt l (length xs)) refl
  where
    whole : ℕ → Sought
    whole n = if nat_lt l n then Found (get_or (x ∷ xs) (n - suc l) 0) else Above (l - n)

    here : (d : ℕ) → l ≡ length xs + d → below x (Above d) ≡ whole (suc (length xs))
    here zero e =
        let i : suc (length xs) - suc l ≡ 0 = omega (arith, e) in
        sym (if-true (nat_lt l (suc (length xs))) (Found (get_or (x ∷ xs) (suc (length xs) - suc l) 0)) (Above (l - suc (length xs))) (lt-ltb l (suc (length xs)) (omega (arith, e)))
        ∙ ap (λ i. Found (get_or (x ∷ xs) i 0)) i)
    here (suc d) e =
        let i : l - suc (length xs) ≡ d = omega (arith, e) in
        sym (if-false (nat_lt l (suc (length xs))) (Found (get_or (x ∷ xs) (suc (length xs) - suc l) 0)) (Above (l - suc (length xs))) (le-ltb l (suc (length xs)) (omega (arith, e)))
        ∙ ap Above i)

    by : (v : Bool) → nat_lt l (length xs) ≡ v → below x (if v then Found (get_or xs (length xs - suc l) 0) else Above (l - length xs)) ≡ whole (suc (length xs))
    by true e =
        let lt = ltb-true l (length xs) e in
        let i : suc (length xs) - suc l ≡ suc (length xs - suc l) = omega (arith, lt) in
        sym (if-true (nat_lt l (suc (length xs))) (Found (get_or (x ∷ xs) (suc (length xs) - suc l) 0)) (Above (l - suc (length xs))) (lt-ltb l (suc (length xs)) (omega (arith, lt)))
        ∙ ap (λ i. Found (get_or (x ∷ xs) i 0)) i)
    by false e = let le = ltb-false l (length xs) e in here (l - length xs) (omega (arith, le))

pub lag_level : (xs : List ℕ) (l : ℕ) → lag xs (l + 1) xs ≡ found (sought xs l)
lag_level xs l = lag_is xs (l + 1) xs ∙ by (nat_lt l (length xs)) refl ∙ sym (ap found (found_is xs l))
  where
    by : (v : Bool) → nat_lt l (length xs) ≡ v → from_end xs (length xs) (l + 1) ≡ found (if v then Found (get_or xs (length xs - suc l) 0) else Above (l - length xs))
    by true e = let lt = ltb-true l (length xs) e in at_end xs (length xs) (l + 1) (length xs - suc l) (omega (arith, lt))
    by false e = let le = ltb-false l (length xs) e in past xs (length xs) (l + 1) (omega (arith, le))
