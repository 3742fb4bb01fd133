-- Products that stop at a greatest number.
use Rattle.std.proofs.Common.{◌≡◌, ℕ, zero, suc, ◌+◌, ◌*◌, ◌<◌, ◌≤◌, ◌⊎◌, inl, inr, min, ℤ, List, [], ◌∷◌, length, drop, refl, sym, ◌∙◌, ap, arith, add-one}
use Rattle.std.specs.Prelude.{slice_get}
use Rattle.sq_forms.specs.Stmts.{times, count_or_none}
use Rattle.std.proofs.Math.Nat.{mul-le-mul_right, le-mul_of_pos_right, mul_assoc}

split : (a b : ℕ) → (a ≤ b) ⊎ (b ≤ a)
split zero b = inl (omega arith)
split (suc a) zero = inr (omega arith)
split (suc a) (suc b) = elim (split a b) [ inl h ↦ inl (omega arith) | inr h ↦ inr (omega arith) ]

pub min_product : (most a b : ℕ) → min (min a most * b) most ≡ min (a * b) most
min_product most a zero = omega arith
min_product most a (suc b) = elim (split a most) [
  | inl h ↦ (let e : min a most ≡ a = omega arith in ap (λ m. min (m * suc b) most) e)
  | inr h ↦ (
      let e : min a most ≡ most = omega arith in
      let p : most ≤ most * suc b = le-mul_of_pos_right most (omega arith) in
      let q : most * suc b ≤ a * suc b = mul-le-mul_right (suc b) h in
      ap (λ m. min (m * suc b) most) e ∙ omega (arith, p, q))
]

times_at : (ns : List ℤ) (i : ℕ) → i < length ns → times (drop i ns) ≡ count_or_none (slice_get ns i) * times (drop (suc i) ns)
times_at [] i h = absurd (omega (arith, h))
times_at (n ∷ ns) zero h = refl
times_at (n ∷ ns) (suc i) h = times_at ns i (omega (arith, h))

times_end : (ns : List ℤ) (i : ℕ) → length ns ≤ i → times (drop i ns) ≡ 1
times_end [] zero h = refl
times_end [] (suc i) h = refl
times_end (n ∷ ns) zero h = absurd (omega (arith, h))
times_end (n ∷ ns) (suc i) h = times_end ns i (omega (arith, h))

pub times_more : (most t r i whole : ℕ) (ns : List ℤ) → i < length ns → min (t * times (drop i ns)) most ≡ whole → r ≡ min (t * count_or_none (slice_get ns i)) most
    → min (r * times (drop (i + 1) ns)) most ≡ whole
times_more most t r i whole ns h inv is =
    let n = count_or_none (slice_get ns i) in
    let rest = times (drop (suc i) ns) in
    let e : t * n * rest ≡ t * times (drop i ns) = mul_assoc t n rest ∙ ap (λ x. t * x) (sym (times_at ns i h)) in
    ap (λ k. min (r * times (drop k ns)) most) (add-one i) ∙ (ap (λ x. min (x * rest) most) is ∙ (min_product most (t * n) rest ∙ (ap (λ x. min x most) e ∙ inv)))

pub times_done : (most t i whole : ℕ) (ns : List ℤ) → length ns ≤ i → t ≤ most → min (t * times (drop i ns)) most ≡ whole → t ≡ whole
times_done most t i whole ns h few inv =
    let e : t * times (drop i ns) ≡ t * 1 = ap (λ x. t * x) (times_end ns i h) in
    let f : min (t * 1) most ≡ whole = sym (ap (λ x. min x most) e) ∙ inv in
    omega (arith, f)
