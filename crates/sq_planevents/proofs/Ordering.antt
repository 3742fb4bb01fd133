-- Steps in another order.
use Rattle.std.proofs.Common.{◌≡◌, ℕ, zero, suc, ◌+◌, ◌-◌, ◌*◌, ◌<◌, Some, List, [], ◌∷◌, slice_get, slice_set, refl, sym, ap, subst, ◌∙◌, ◌⊎◌, inl, inr, arith}
use Rattle.std.proofs.Math.Nat.{add-mul, zero-mul}
use Rattle.sq_areas.specs.declared.areas.Step.{Step}
use Rattle.sq_planevents.specs.Twice.{IsOff, Meet, IsTwice, IsOrder}

pub same_order : (ds : List Step) → IsOrder ds ds
same_order ds = record { long = refl; span = refl; there = λ o h. h; back = λ o h. h; twice = λ h. h; untwice = λ h. h }

pub order_on : (ds es fs : List Step) → IsOrder ds es → IsOrder es fs → IsOrder ds fs
order_on ds es fs a b = record {
  long = b.long ∙ a.long;
  span = b.span ∙ a.span;
  there = λ o h. b.there o (a.there o h);
  back = λ o h. a.back o (b.back o h);
  twice = λ h. b.twice (a.twice h);
  untwice = λ h. a.untwice (b.untwice h);
}

meet_to : (ds es : List Step) → ((o : ℕ) → IsOff ds o → IsOff es o) → (x y : ℕ) → Meet ds x y → Meet es x y
meet_to ds es f x y m = record { one = m.one; other = m.other; of_one = f m.one m.of_one; of_other = f m.other m.of_other; same = m.same }

behind : (d : Step) (ds es : List Step) → IsOrder ds es → IsOrder (d ∷ ds) (d ∷ es)
behind d ds es a = record {
  long = ap suc a.long;
  span = ap (λ z. (d.count - 1) * d.step + z) a.span;
  there = λ o h. (h.0, h.1, h.2, a.there h.2 h.3, h.4);
  back = λ o h. (h.0, h.1, h.2, a.back h.2 h.3, h.4);
  twice = twice;
  untwice = untwice;
}
  where
    twice : IsTwice (d ∷ ds) → IsTwice (d ∷ es)
    twice (inl k) = inl (k.0, k.1, k.2, meet_to ds es a.there (k.0 * d.step) 0 k.3)
    twice (inr h) = inr (a.twice h)

    untwice : IsTwice (d ∷ es) → IsTwice (d ∷ ds)
    untwice (inl k) = inl (k.0, k.1, k.2, meet_to es ds a.back (k.0 * d.step) 0 k.3)
    untwice (inr h) = inr (a.untwice h)

-- ---- two steps that change places

number_or : (i j : ℕ) → (i < j) ⊎ ((i ≡ j) ⊎ (j < i))
number_or zero zero = inr (inl refl)
number_or zero (suc j) = inl (omega arith)
number_or (suc i) zero = inr (inr (omega arith))
number_or (suc i) (suc j) = lift (number_or i j)
  where
    lift : (i < j) ⊎ ((i ≡ j) ⊎ (j < i)) → (suc i < suc j) ⊎ ((suc i ≡ suc j) ⊎ (suc j < suc i))
    lift (inl l) = inl (omega (arith, l))
    lift (inr (inl e)) = inr (inl (ap suc e))
    lift (inr (inr l)) = inr (inr (omega (arith, l)))

swap_off : (d e : Step) (ds : List Step) (o : ℕ) → IsOff (d ∷ e ∷ ds) o → IsOff (e ∷ d ∷ ds) o
swap_off d e ds o h =
    let r = h.3 in
    let p = h.4 in
    let q = r.4 in
    (r.0, r.1, h.0 * d.step + r.2, (h.0, h.1, r.2, r.3, refl), omega (arith, p, q))

swap_twice : (d e : Step) (ds : List Step) → 0 < d.count → IsTwice (d ∷ e ∷ ds) → IsTwice (e ∷ d ∷ ds)
swap_twice d e ds some (inr (inr h)) = inr (inr h)
swap_twice d e ds some (inr (inl k)) =
    let m = k.3 in
    let s = m.same in
    let z = zero-mul d.step in
    inl (
      k.0,
      k.1,
      k.2,
      record {
        one = 0 * d.step + m.one;
        other = 0 * d.step + m.other;
        of_one = (0, some, m.one, m.of_one, refl);
        of_other = (0, some, m.other, m.of_other, refl);
        same = omega (arith, s, z);
      },
    )
swap_twice d e ds some (inl k) = by (number_or t u)
  where
    m : Meet (e ∷ ds) (k.0 * d.step) 0
    m = k.3

    t : ℕ
    t = m.of_one.0

    u : ℕ
    u = m.of_other.0

    by : (t < u) ⊎ ((t ≡ u) ⊎ (u < t)) → IsTwice (e ∷ d ∷ ds)
    by (inl l) =
        let s = m.same in
        let p = m.of_one.4 in
        let q = m.of_other.4 in
        let n = m.of_other.1 in
        let a = add-mul t (u - t) e.step in
        let z : t + (u - t) ≡ u = omega (arith, l) in
        let w : (t + (u - t)) * e.step ≡ u * e.step = ap (λ v. v * e.step) z in
        let o = zero-mul d.step in
        inl (
          u - t,
          omega (arith, l),
          omega (arith, n),
          record {
            one = 0 * d.step + m.of_other.2;
            other = k.0 * d.step + m.of_one.2;
            of_one = (0, some, m.of_other.2, m.of_other.3, refl);
            of_other = (k.0, k.2, m.of_one.2, m.of_one.3, refl);
            same = omega (arith, s, p, q, a, w, o);
          },
        )
    by (inr (inl same)) =
        let s = m.same in
        let p = m.of_one.4 in
        let q = m.of_other.4 in
        let w : t * e.step ≡ u * e.step = ap (λ v. v * e.step) same in
        inr (inl (k.0, k.1, k.2, record { one = m.of_one.2; other = m.of_other.2; of_one = m.of_one.3; of_other = m.of_other.3; same = omega (arith, s, p, q, w) }))
    by (inr (inr l)) =
        let s = m.same in
        let p = m.of_one.4 in
        let q = m.of_other.4 in
        let n = m.of_one.1 in
        let a = add-mul u (t - u) e.step in
        let z : u + (t - u) ≡ t = omega (arith, l) in
        let w : (u + (t - u)) * e.step ≡ t * e.step = ap (λ v. v * e.step) z in
        let o = zero-mul d.step in
        inl (
          t - u,
          omega (arith, l),
          omega (arith, n),
          record {
            one = k.0 * d.step + m.of_one.2;
            other = 0 * d.step + m.of_other.2;
            of_one = (k.0, k.2, m.of_one.2, m.of_one.3, refl);
            of_other = (0, some, m.of_other.2, m.of_other.3, refl);
            same = omega (arith, s, p, q, a, w, o);
          },
        )

swapped : (d e : Step) (ds : List Step) → 0 < d.count → 0 < e.count → IsOrder (d ∷ e ∷ ds) (e ∷ d ∷ ds)
swapped d e ds one other = record {
  long = refl;
  span = omega arith;
  there = swap_off d e ds;
  back = swap_off e d ds;
  twice = swap_twice d e ds one;
  untwice = swap_twice e d ds other;
}

swapped_at : (xs : List Step) (i : ℕ) (d e : Step) → slice_get xs i ≡ Some d → slice_get xs (suc i) ≡ Some e → 0 < d.count → 0 < e.count → IsOrder xs (slice_set (slice_set xs i e) (suc i) d)
swapped_at [] i d e f g one other = cc
swapped_at (x ∷ []) zero d e f g one other = cc
swapped_at (x ∷ y ∷ xs) zero d e f g one other =
    let p : d ≡ x = cc in
    let q : e ≡ y = cc in
    subst (λ z. IsOrder (z ∷ y ∷ xs) (e ∷ d ∷ xs)) p (subst (λ z. IsOrder (d ∷ z ∷ xs) (e ∷ d ∷ xs)) q (swapped d e xs one other))
swapped_at (x ∷ xs) (suc i) d e f g one other = behind x xs (slice_set (slice_set xs i e) (suc i) d) (swapped_at xs i d e f g one other)

pub swapped_to : (xs ys zs : List Step) (i j : ℕ) (d e : Step) → j ≡ suc i → slice_get xs i ≡ Some d → slice_get xs j ≡ Some e → (e.count ≡ 0 → ⊥) → e.count < d.count → ys ≡ slice_set xs i e → zs ≡ slice_set ys j d → IsOrder xs zs
swapped_to xs ys zs i j d e next f g n l p q =
    let some : 0 < e.count = positive e.count n in
    let g' : slice_get xs (suc i) ≡ Some e = subst (λ k. slice_get xs k ≡ Some e) next g in
    let is : zs ≡ slice_set (slice_set xs i e) (suc i) d = q ∙ (ap (λ l. slice_set l j d) p ∙ ap (λ k. slice_set (slice_set xs i e) k d) next) in
    subst (IsOrder xs) (sym is) (swapped_at xs i d e f g' (omega (arith, l)) some)
  where
    positive : (k : ℕ) → (k ≡ 0 → ⊥) → 0 < k
    positive zero f = absurd (f refl)
    positive (suc k) f = omega arith
