-- Areas that have no byte in common.
use Rattle.std.proofs.Common.{◌≡◌, ℕ, zero, suc, ◌+◌, ◌-◌, ◌*◌, ◌/◌, ◌%◌, ◌<◌, ◌≤◌, List, [], ◌∷◌, sym, ap, ap₂, subst, ◌∙◌, ◌⊎◌, inl, inr, arith}
use Rattle.std.proofs.Math.Nat.{mul-le-mul_right, mul_assoc, add-mul, zero-mul, div-add-mod, mod-lt, mul_comm}
use Rattle.sq_areas.specs.Areas.{HasByte, reach_of, Share}
use Rattle.sq_areas.specs.Residues.{Divides, DividesBoth, DividesSteps, DividesAll, LieApart}
use Rattle.sq_areas.specs.declared.areas.Step.{Step}
use Rattle.sq_areas.specs.declared.areas.Area.{Area}
use Rattle.sq_areas.proofs.Bytes.{byte_inside}

-- ---- by what they reach over

pub ends_first : (a b : Area) (end : ℕ) → end ≡ a.at + reach_of a.steps a.run → end ≤ b.at → ¬ Share a.at a.run a.steps b
ends_first a b end e l s =
    let i = byte_inside a.steps a.at a.run s.0 s.1 in
    let j = byte_inside b.steps b.at b.run s.0 s.2 in
    absurd (omega (arith, i.1, j.0, e, l))

pub begins_last : (a b : Area) (end : ℕ) → end ≡ b.at + reach_of b.steps b.run → end ≤ a.at → ¬ Share a.at a.run a.steps b
begins_last a b end e l s =
    let i = byte_inside a.steps a.at a.run s.0 s.1 in
    let j = byte_inside b.steps b.at b.run s.0 s.2 in
    absurd (omega (arith, i.0, j.1, e, l))

pub lie_apart : (a b : Area) → LieApart a b → ¬ Share a.at a.run a.steps b
lie_apart a b l = l.none

-- ---- divisors

divides-self : (d : ℕ) → Divides d d
divides-self d = (1, omega arith)

divides-zero : (d : ℕ) → Divides d 0
divides-zero d = (0, sym (zero-mul d))

divides-on : (d e n : ℕ) → Divides d e → Divides e n → Divides d n
divides-on d e n x y = (y.0 * x.0, y.1 ∙ ap (λ z. y.0 * z) x.1 ∙ sym (mul_assoc y.0 x.0 d))

divides-sum : (d a b : ℕ) → Divides d a → Divides d b → Divides d (a + b)
divides-sum d a b x y = (x.0 + y.0, ap₂ (λ u v. u + v) x.1 y.1 ∙ sym (add-mul x.0 y.0 d))

divides-times : (d a k : ℕ) → Divides d a → Divides d (k * a)
divides-times d a k x = (k * x.0, ap (λ z. k * z) x.1 ∙ sym (mul_assoc k x.0 d))

pub both_first : (a b : ℕ) → b ≡ 0 → DividesBoth a a b
both_first a b e = record { first = divides-self a; second = subst (Divides a) (sym e) (divides-zero a) }

pub both_more : (d a b : ℕ) → DividesBoth d b (a % b) → DividesBoth d a b
both_more d a b h = record { first = subst (Divides d) (div-add-mod a b) (divides-sum d (b * (a / b)) (a % b) (subst (Divides d) (mul_comm (a / b) b) (divides-times d b (a / b) h.first)) h.second); second = h.first }

pub all_empty : (n : ℕ) (steps : List Step) → steps ≡ [] → DividesAll n n steps
all_empty n steps e = record { number = divides-self n; steps_too = subst (DividesSteps n) (sym e) tt }

pub all_more : (d n e : ℕ) (steps : List Step) (s : Step) (ss : List Step) → steps ≡ s ∷ ss → DividesBoth e n s.step → DividesAll d e ss → DividesAll d n steps
all_more d n e steps s ss is b h =
    record { number = divides-on d e n h.number b.first; steps_too = subst (DividesSteps d) (sym is) (divides-on d e s.step h.number b.second, h.steps_too) }

steps-on : (d e : ℕ) (ss : List Step) → Divides d e → DividesSteps e ss → DividesSteps d ss
steps-on d e [] h k = tt
steps-on d e (s ∷ ss) h k = (divides-on d e s.step h k.0, steps-on d e ss h k.1)

-- ---- by their places modulo a number

-- a byte stands so far behind the begin of a run, which is a multiple behind the first one
abbrev At : (g at run k : ℕ) → Type 0
At g at run k = (m : ℕ) × (j : ℕ) × (j < run) × (k ≡ at + m * g + j)

byte-at : (g : ℕ) (ss : List Step) (at run k : ℕ) → DividesSteps g ss → HasByte ss at run k → At g at run k
byte-at g [] at run k h b = let p = b.0 in let q = b.1 in let z = zero-mul g in (0, k - at, omega (arith, p, q), omega (arith, p, z))
byte-at g (s ∷ ss) at run k h b =
    let r = byte-at g ss (at + b.0 * s.step) run k h.1 b.2 in
    let t = divides-times g s.step b.0 h.0 in
    let e = t.1 in
    let f = r.3 in
    let a = add-mul t.0 r.0 g in
    (t.0 + r.0, r.1, r.2, omega (arith, e, f, a))

below-or : (x y : ℕ) → (x < y) ⊎ (y ≤ x)
below-or x zero = inr (omega arith)
below-or zero (suc y) = inl (omega arith)
below-or (suc x) (suc y) = lift (below-or x y)
  where
    lift : (x < y) ⊎ (y ≤ x) → (suc x < suc y) ⊎ (suc y ≤ suc x)
    lift (inl l) = inl (omega (arith, l))
    lift (inr l) = inr (omega (arith, l))

-- two multiples of a number don't differ by less than it
no-multiple : (g u v x y : ℕ) → x < y → y < x + g → u * g + x ≡ v * g + y → ⊥
no-multiple g u v x y l h e = by (below-or v u)
  where
    by : (v < u) ⊎ (u ≤ v) → ⊥
    by (inl k) =
        let m : (v + 1) * g ≤ u * g = mul-le-mul_right g (omega (arith, k)) in
        let a = add-mul v 1 g in
        absurd (omega (arith, m, a, e, h))
    by (inr k) = let m : u * g ≤ v * g = mul-le-mul_right g k in absurd (omega (arith, m, e, l))

module _ (g at run other at' : ℕ) (k : ℕ) (a : At g at run k) (b : At g at' other k) where
  first : k ≡ (at / g + a.0) * g + (at % g + a.1)
  first =
      let d = div-add-mod at g in
      let c = mul_comm g (at / g) in
      let m = add-mul (at / g) a.0 g in
      let e = a.3 in
      omega (arith, d, c, m, e)

  second : k ≡ (at' / g + b.0) * g + (at' % g + b.1)
  second =
      let d = div-add-mod at' g in
      let c = mul_comm g (at' / g) in
      let m = add-mul (at' / g) b.0 g in
      let e = b.3 in
      omega (arith, d, c, m, e)

  never : at % g + run ≤ at' % g → at' % g + other ≤ at % g + g → ⊥
  never p q =
      let x = a.2 in
      let y = b.2 in
      no-multiple g (at / g + a.0) (at' / g + b.0) (at % g + a.1) (at' % g + b.1) (omega (arith, x, p)) (omega (arith, y, q)) (sym first ∙ second)

  never' : at' % g + other ≤ at % g → at % g + run ≤ at' % g + g → ⊥
  never' p q =
      let x = a.2 in
      let y = b.2 in
      no-multiple g (at' / g + b.0) (at / g + a.0) (at' % g + b.1) (at % g + a.1) (omega (arith, y, p)) (omega (arith, x, q)) (sym second ∙ first)

module _ (a b : Area) (d g : ℕ) (one : DividesAll d 0 a.steps) (both : DividesAll g d b.steps) where
  here : (k : ℕ) → HasByte a.steps a.at a.run k → At g a.at a.run k
  here k h = byte-at g a.steps a.at a.run k (steps-on g d a.steps both.number one.steps_too) h

  there : (k : ℕ) → HasByte b.steps b.at b.run k → At g b.at b.run k
  there k h = byte-at g b.steps b.at b.run k both.steps_too h

  pub apart_first' : a.at % g + a.run ≤ b.at % g → b.at % g + b.run ≤ a.at % g + g → LieApart a b
  apart_first' p q = record { none = λ s. never g a.at a.run b.run b.at s.0 (here s.0 s.1) (there s.0 s.2) p q }

  pub apart_last' : b.at % g + b.run ≤ a.at % g → a.at % g + a.run ≤ b.at % g + g → LieApart a b
  apart_last' p q = record { none = λ s. never' g a.at a.run b.run b.at s.0 (here s.0 s.1) (there s.0 s.2) p q }

pub place_below : (at g : ℕ) → 0 < g → at % g < g
place_below at g l = mod-lt at l

pub apart_first : (a b : Area) (d g p q : ℕ) (xs ys : List Step) → xs ≡ a.steps → ys ≡ b.steps → DividesAll d 0 xs → DividesAll g d ys → p ≡ a.at % g → q ≡ b.at % g
    → (p + a.run ≤ q) × (q + b.run ≤ p + g) → LieApart a b
apart_first a b d g p q xs ys e f one both m n h =
    let l = h.0 in
    let k = h.1 in
    apart_first' a b d g (subst (DividesAll d 0) e one) (subst (DividesAll g d) f both) (omega (arith, l, m, n)) (omega (arith, k, m, n))

pub apart_last : (a b : Area) (d g p q : ℕ) (xs ys : List Step) → xs ≡ a.steps → ys ≡ b.steps → DividesAll d 0 xs → DividesAll g d ys → p ≡ a.at % g → q ≡ b.at % g
    → (q + b.run ≤ p) × (p + a.run ≤ q + g) → LieApart a b
apart_last a b d g p q xs ys e f one both m n h =
    let l = h.0 in
    let k = h.1 in
    apart_last' a b d g (subst (DividesAll d 0) e one) (subst (DividesAll g d) f both) (omega (arith, l, m, n)) (omega (arith, k, m, n))
