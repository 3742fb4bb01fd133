-- The iterations of a spread map at one child: a first one, and each further one so many behind.
use Rattle.std.proofs.Common.{◌≡◌, ℕ, zero, suc, ◌+◌, ◌-◌, ◌*◌, ◌/◌, ◌%◌, ◌<◌, ◌≤◌, ◌==◌, Bool, true, false, List, []}
use Rattle.std.proofs.Common.{◌∷◌, length, get_or, ◌⊎◌, inl, inr, refl, ap, ap₂, ◌∙◌, arith, if◌then◌else◌}
use Rattle.std.proofs.lemmas.Bool.{cases_lt}
use Rattle.std.proofs.lemmas.Bool.Decides.{nat_tests}
use Rattle.std.proofs.lemmas.Nat.{mod-mul-add, le-div}
use Rattle.std.proofs.Math.Nat.{lt-div-mul-add, div-mul-le_self, div-lt_iff_lt-mul, mul-le-mul_right, mul_comm}
use Rattle.std.specs.List.{filter, range_with_len}
use Rattle.sq_text.specs.declared.spread.SpreadRule.{SpreadRule}
use Rattle.sq_text.specs.declared.spread.SpreadRule.TheVariants.{Cyclic, Blocked}
use Rattle.sq_text.specs.Spreading.{iterations_at}

-- so many numbers, each so far behind the one before it
pub steps : (first step many : ℕ) → List ℕ
steps first step zero = []
steps first step (suc n) = first ∷ steps (first + step) step n

pub length_steps : (first step many : ℕ) → length (steps first step many) ≡ many
unfolding steps
length_steps first step zero = refl
length_steps first step (suc n) = ap suc (length_steps (first + step) step n)

pub at_steps : (first step many j : ℕ) → j < many → get_or (steps first step many) j 0 ≡ first + step * j
unfolding steps
at_steps first step zero j l = absurd (omega (arith, l))
at_steps first step (suc n) zero l = let z : first ≡ first + step * 0 = omega arith in z
at_steps first step (suc n) (suc j) l =
    let z : first + step + step * j ≡ first + step * suc j = omega arith in
    at_steps (first + step) step n j (omega (arith, l)) ∙ z

-- ---- every so many

same_number : (n m : ℕ) → n ≡ m → (n == m) ≡ true
same_number n m h = grind (arith, nat_tests, h)

other_number : (n m : ℕ) → (n ≡ m → ⊥) → (n == m) ≡ false
other_number n m h = go (n == m) refl
  where
    go : (b : Bool) → (n == m) ≡ b → b ≡ false
    go true e = absurd (h (grind (arith, nat_tests, e)))
    go false e = refl

taken : (p : ℕ → Bool) (a n : ℕ) → p a ≡ true → filter p (range_with_len a (suc n))
    ≡ a ∷ filter p (range_with_len (a + 1) n)
taken p a n h = ap (λ (b : Bool). if b then a ∷ filter p (range_with_len (a + 1) n) else filter p (range_with_len
    (a + 1) n)) h

passed : (p : ℕ → Bool) (a n : ℕ) → p a ≡ false → filter p (range_with_len a (suc n))
    ≡ filter p (range_with_len (a + 1) n)
passed p a n h = ap (λ (b : Bool). if b then a ∷ filter p (range_with_len (a + 1) n) else filter p (range_with_len
    (a + 1) n)) h

module _ (f c : ℕ) (inside : c < f) where
  abbrev hits : ℕ → Bool
  hits t = (t % f) == c

  hit : (a q : ℕ) → a ≡ q * f + c → hits a ≡ true
  hit a q e = same_number (a % f) c (ap (λ (x : ℕ). x % f) e ∙ mod-mul-add q f c inside)

  -- the next one is less than f behind
  miss : (a q d : ℕ) → a + suc d ≡ q * f + c → suc d < f → hits a ≡ false
  miss a q d e l = other_number (a % f) c (λ g. go q e (cases_lt d c) g)
    where
      go : (q : ℕ) → a + suc d ≡ q * f + c → (d < c) ⊎ (c ≤ d) → a % f ≡ c → ⊥
      go q e (inl k) g =
          let z : a ≡ q * f + (c - suc d) = omega (arith, e, k) in
          let y = ap (λ (x : ℕ). x % f) z ∙ mod-mul-add q f (c - suc d) (omega (arith, k, inside)) in
          omega (arith, g, y, k)
      go zero e (inr k) g = omega (arith, e, k)
      go (suc q) e (inr k) g =
          let z : a ≡ q * f + (f + c - suc d) = omega (arith, e, k, l) in
          let y = ap (λ (x : ℕ). x % f) z ∙ mod-mul-add q f (f + c - suc d) (omega (arith, k, l, inside)) in
          omega (arith, g, y, k, l)

  -- from a number on, the next one being d behind it
  every : (n a q d m : ℕ) → a + d ≡ q * f + c → d < f → n ≤ d + m * f → m * f + d < n + f
      → filter hits (range_with_len a n) ≡ steps (a + d) f m
  unfolding steps
  every zero a q d zero e l up down = refl
  every zero a q d (suc m) e l up down = absurd (omega (arith, down))
  every (suc n) a q zero zero e l up down = absurd (omega (arith, up))
  every (suc n) a q zero (suc m) e l up down =
      let z : a ≡ q * f + c = omega (arith, e) in
      let y : a + 1 + (f - 1) ≡ suc q * f + c = omega (arith, e, l) in
      let x : a ≡ a + 0 = omega arith in
      let w : a + 1 + (f - 1) ≡ a + 0 + f = omega (arith, l) in
      taken hits a n (hit a q z)
      ∙ ap₂ (λ u v. u ∷ v) x (every n (a + 1) (suc q) (f - 1) m y (omega (arith, l)) (omega (arith, up, l))
      (omega (arith, down, l)) ∙ ap (λ (u : ℕ). steps u f m) w)
  every (suc n) a q (suc d) m e l up down =
      let y : a + 1 + d ≡ q * f + c = omega (arith, e) in
      let w : a + 1 + d ≡ a + suc d = omega arith in
      passed hits a n (miss a q d e l)
      ∙ every n (a + 1) q d m y (omega (arith, l)) (omega (arith, up)) (omega (arith, down))
      ∙ ap (λ (u : ℕ). steps u f m) w

-- ---- one behind another

module _ (p : ℕ → Bool) where
  -- those from the d-th on, so many, and no others
  run : (n a d m : ℕ) → d + m ≤ n → ((t : ℕ) → t < a + d → a ≤ t → p t ≡ false)
      → ((t : ℕ) → a + d ≤ t → t < a + d + m → p t ≡ true) → ((t : ℕ) → a + d + m ≤ t → t < a + n → p t ≡ false)
      → filter p (range_with_len a n) ≡ steps (a + d) 1 m
  unfolding steps
  run zero a zero zero l before there after = refl
  run zero a zero (suc m) l before there after = absurd (omega (arith, l))
  run zero a (suc d) m l before there after = absurd (omega (arith, l))
  run (suc n) a zero zero l before there after =
      passed p a n (after a (omega arith) (omega arith))
      ∙ run n (a + 1) zero zero (omega arith) (λ t u v. absurd (omega (arith, u, v))) (λ t u v. absurd (omega
      (arith, u, v)))
      (λ t u v. after t (omega (arith, u)) (omega (arith, v)))
  run (suc n) a zero (suc m) l before there after =
      let x : a ≡ a + 0 = omega arith in
      let w : a + 1 + 0 ≡ a + 0 + 1 = omega arith in
      taken p a n (there a (omega arith) (omega arith))
      ∙ ap₂ (λ u v. u ∷ v) x
      (run n (a + 1) zero m (omega (arith, l)) (λ t u v. absurd (omega (arith, u, v)))
      (λ t u v. there t (omega (arith, u)) (omega (arith, v))) (λ t u v. after t (omega (arith, u)) (omega (arith, v)))
      ∙ ap (λ (u : ℕ). steps u 1 m) w)
  run (suc n) a (suc d) m l before there after =
      let w : a + 1 + d ≡ a + suc d = omega arith in
      passed p a n (before a (omega arith) (omega arith))
      ∙ run n (a + 1) d m (omega (arith, l)) (λ t u v. before t (omega (arith, u)) (omega (arith, v)))
      (λ t u v. there t (omega (arith, u)) (omega (arith, v))) (λ t u v. after t (omega (arith, u)) (omega (arith, v)))
      ∙ ap (λ (u : ℕ). steps u 1 m) w

-- ---- by either rule

-- the rounded-up f-th part
abbrev pub up : (x f : ℕ) → ℕ
up x f = (x + (f - 1)) / f

reaches : (x f : ℕ) → 0 < f → x ≤ up x f * f
reaches x f some = let e = lt-div-mul-add {a = x + (f - 1)} some in omega (arith, e, some)

barely : (x f : ℕ) → 0 < f → up x f * f < x + f
barely x f some = let e = div-mul-le_self (x + (f - 1)) f in omega (arith, e, some)

before_up : (x f t : ℕ) → 0 < f → t < up x f → t * f < x
before_up x f t some l =
    let e = barely x f some in
    let m : suc t * f ≤ up x f * f = mul-le-mul_right f l in
    omega (arith, e, m)

from_up : (x f t : ℕ) → 0 < f → up x f ≤ t → x ≤ t * f
from_up x f t some l =
    let e = reaches x f some in
    let m : up x f * f ≤ t * f = mul-le-mul_right f l in
    omega (arith, e, m)

abbrev pub lane_first : SpreadRule → (count f c : ℕ) → ℕ
lane_first Cyclic count f c = c
lane_first Blocked count f c = up (c * count) f

abbrev pub lane_step : SpreadRule → (f : ℕ) → ℕ
lane_step Cyclic f = f
lane_step Blocked f = 1

abbrev pub lane_many : SpreadRule → (count f c : ℕ) → ℕ
lane_many Cyclic count f c = (count + (f - 1) - c) / f
lane_many Blocked count f c = up ((c + 1) * count) f - up (c * count) f

cyclic_up : (n f c : ℕ) → c < f → n ≤ c + lane_many Cyclic n f c * f
cyclic_up n f c l = let e = lt-div-mul-add {a = n + (f - 1) - c} {b = f} (omega (arith, l)) in omega (arith, e, l)

cyclic_down : (n f c : ℕ) → c < f → lane_many Cyclic n f c * f + c < n + f
cyclic_down n f c l = let e = div-mul-le_self (n + (f - 1) - c) f in omega (arith, e, l)

blocked_ends : (n f c : ℕ) → c < f → up ((c + 1) * n) f ≤ n
blocked_ends n f c l = go (cases_lt n (up ((c + 1) * n) f))
  where
    go : (n < up ((c + 1) * n) f) ⊎ (up ((c + 1) * n) f ≤ n) → up ((c + 1) * n) f ≤ n
    go (inr k) = k
    go (inl k) =
        let e = before_up ((c + 1) * n) f n (omega (arith, l)) k in
        let m : suc c * n ≤ f * n = mul-le-mul_right n l in
        absurd (omega (arith, e, m))

pub blocked_rises : (n f c : ℕ) → 0 < f → up (c * n) f ≤ up ((c + 1) * n) f
blocked_rises n f c some = go (cases_lt (up ((c + 1) * n) f) (up (c * n) f))
  where
    go : (up ((c + 1) * n) f < up (c * n) f) ⊎ (up (c * n) f ≤ up ((c + 1) * n) f)
        → up (c * n) f ≤ up ((c + 1) * n) f
    go (inr k) = k
    go (inl k) =
        let e = before_up (c * n) f (up ((c + 1) * n) f) some k in
        let m = reaches ((c + 1) * n) f some in
        absurd (omega (arith, e, m))

blocked : (n f c : ℕ) → c < f → iterations_at Blocked n f c
    ≡ steps (lane_first Blocked n f c) (lane_step Blocked f) (lane_many Blocked n f c)
unfolding steps
blocked zero f c l =
    let e : (c + 1) * 0 ≡ c * 0 = omega arith in
    let y = ap (λ (x : ℕ). up x f) e in
    let z : 0 ≡ up ((c + 1) * 0) f - up (c * 0) f = omega (arith, y) in
    ap (steps (up (c * 0) f) 1) z
blocked (suc n) f c l =
    let some : 0 < f = omega (arith, l) in
    let rises = blocked_rises (suc n) f c some in
    let ends = blocked_ends (suc n) f c l in
    let z : 0 + up (c * suc n) f ≡ up (c * suc n) f = omega arith in
    run (λ t. (t * f / suc n) == c) (suc n) 0 (up (c * suc n) f) (lane_many Blocked (suc n) f c)
    (omega (arith, rises, ends))
    (λ t u v. let e = before_up (c * suc n) f t some (omega (arith, u)) in
    let m : t * f / suc n < c = (div-lt_iff_lt-mul {x = t * f} {y = c} (omega arith)).1 e in
    other_number (t * f / suc n) c (λ g. omega (arith, g, m)))
    (λ t u v. let e = from_up (c * suc n) f t some (omega (arith, u)) in
    let d = before_up ((c + 1) * suc n) f t some (omega (arith, v, rises)) in
    let m : t * f / suc n < c + 1 = (div-lt_iff_lt-mul {x = t * f} {y = c + 1} (omega arith)).1 d in
    let k = le-div c (t * f) (suc n) (omega arith) e in
    same_number (t * f / suc n) c (omega (arith, m, k)))
    (λ t u v. let e = from_up ((c + 1) * suc n) f t some (omega (arith, u, rises)) in
    let k = le-div (c + 1) (t * f) (suc n) (omega arith) e in
    other_number (t * f / suc n) c (λ g. omega (arith, g, k)))
    ∙ ap (λ (x : ℕ). steps x 1 (lane_many Blocked (suc n) f c)) z

lane_steps : (rule : SpreadRule) (n f c : ℕ) → c < f → iterations_at rule n f c
    ≡ steps (lane_first rule n f c) (lane_step rule f) (lane_many rule n f c)
lane_steps Cyclic n f c l =
    let z : 0 + c ≡ c = omega arith in
    every f c l n 0 0 c (lane_many Cyclic n f c) (omega arith) l (cyclic_up n f c l) (cyclic_down n f c l)
    ∙ ap (λ (x : ℕ). steps x f (lane_many Cyclic n f c)) z
lane_steps Blocked n f c l = blocked n f c l

-- how many there are, and the j-th of them
pub lane_length : (rule : SpreadRule) (n f c : ℕ) → c < f → length (iterations_at rule n f c) ≡ lane_many rule n f c
lane_length rule n f c l = ap length (lane_steps rule n f c l)
    ∙ length_steps (lane_first rule n f c) (lane_step rule f) (lane_many rule n f c)

pub lane_item : (rule : SpreadRule) (n f c j : ℕ) → c < f → j < lane_many rule n f c
    → get_or (iterations_at rule n f c) j 0 ≡ lane_first rule n f c + lane_step rule f * j
lane_item rule n f c j l k = ap (λ (xs : List ℕ). get_or xs j 0) (lane_steps rule n f c l)
    ∙ at_steps (lane_first rule n f c) (lane_step rule f) (lane_many rule n f c) j k

pub lane_below : (rule : SpreadRule) (n f c j : ℕ) → c < f → j < lane_many rule n f c
    → lane_first rule n f c + lane_step rule f * j < n
lane_below Cyclic n f c j l k =
    let d = cyclic_down n f c l in
    let m : suc j * f ≤ lane_many Cyclic n f c * f = mul-le-mul_right f k in
    let z = mul_comm f j in
    omega (arith, d, m, z)
lane_below Blocked n f c j l k = let e = blocked_ends n f c l in omega (arith, e, k)
