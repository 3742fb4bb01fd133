-- Members of lists of numbers, and lists in which none stands twice.
use Rattle.std.proofs.Common.{◌≡◌, ℕ, zero, suc, ◌+◌, ◌<◌, ◌≤◌, List, [], ◌∷◌, ◌++◌, map, refl, sym, ap, subst, ◌⊎◌, inl, inr, arith}
use Rattle.std.specs.List.{Contains, range_with_len}
use Rattle.sq_ir.specs.Plans.{AreDistinct}

abbrev pub In : List ℕ → ℕ → Type 0
In [] k = ⊥
In (x ∷ xs) k = (k ≡ x) ⊎ In xs k

pub there : (xs : List ℕ) (k : ℕ) → Contains xs k → In xs k
there [] k (i, lt, is) = absurd (omega (arith, lt))
there (x ∷ xs) k (zero, lt, is) = inl (sym is)
there (x ∷ xs) k (suc i, lt, is) = inr (there xs k (i, omega (arith, lt), is))

pub back : (xs : List ℕ) (k : ℕ) → In xs k → Contains xs k
back [] k h = absurd h
back (x ∷ xs) k (inl e) = (0, omega arith, sym e)
back (x ∷ xs) k (inr h) = let c = back xs k h in (suc c.0, omega (arith, c.1), c.2)

abbrev pub Once : List ℕ → Type 0
Once [] = Unit {0}
Once (x ∷ xs) = (In xs x → ⊥) × Once xs

pub once : (xs : List ℕ) → AreDistinct xs → Once xs
once [] h = tt
once (x ∷ xs) h = ((λ i. h.0 (back xs x i)), once xs h.1)

pub distinct : (xs : List ℕ) → Once xs → AreDistinct xs
distinct [] h = tt
distinct (x ∷ xs) h = ((λ c. h.0 (there xs x c)), distinct xs h.1)

-- ---- two lists, one behind the other

pub in_left : (xs ys : List ℕ) (k : ℕ) → In xs k → In (xs ++ ys) k
in_left [] ys k h = absurd h
in_left (x ∷ xs) ys k (inl e) = inl e
in_left (x ∷ xs) ys k (inr h) = inr (in_left xs ys k h)

pub in_right : (xs ys : List ℕ) (k : ℕ) → In ys k → In (xs ++ ys) k
in_right [] ys k h = h
in_right (x ∷ xs) ys k h = inr (in_right xs ys k h)

pub in_either : (xs ys : List ℕ) (k : ℕ) → In (xs ++ ys) k → In xs k ⊎ In ys k
in_either [] ys k h = inr h
in_either (x ∷ xs) ys k (inl e) = inl (inl e)
in_either (x ∷ xs) ys k (inr h) = by (in_either xs ys k h)
  where
    by : In xs k ⊎ In ys k → In (x ∷ xs) k ⊎ In ys k
    by (inl i) = inl (inr i)
    by (inr i) = inr i

abbrev pub Disjoint : (xs ys : List ℕ) → Type 0
Disjoint xs ys = (k : ℕ) → In xs k → In ys k → ⊥

pub once_both : (xs ys : List ℕ) → Once xs → Once ys → Disjoint xs ys → Once (xs ++ ys)
once_both [] ys h g d = g
once_both (x ∷ xs) ys h g d = ((λ i. by (in_either xs ys x i)), once_both xs ys h.1 g (λ k i j. d k (inr i) j))
  where
    by : In xs x ⊎ In ys x → ⊥
    by (inl i) = h.0 i
    by (inr i) = d x (inl refl) i

pub once_left : (xs ys : List ℕ) → Once (xs ++ ys) → Once xs
once_left [] ys h = tt
once_left (x ∷ xs) ys h = ((λ i. h.0 (in_left xs ys x i)), once_left xs ys h.1)

pub once_right : (xs ys : List ℕ) → Once (xs ++ ys) → Once ys
once_right [] ys h = h
once_right (x ∷ xs) ys h = once_right xs ys h.1

pub once_apart : (xs ys : List ℕ) → Once (xs ++ ys) → Disjoint xs ys
once_apart [] ys h k i j = i
once_apart (x ∷ xs) ys h k (inl e) j = h.0 (in_right xs ys x (subst (In ys) e j))
once_apart (x ∷ xs) ys h k (inr i) j = once_apart xs ys h.1 k i j

-- ---- ranges, and numbers moved on

pub in_range : (a n k : ℕ) → In (range_with_len a n) k → (a ≤ k) × (k < a + n)
in_range a zero k h = absurd h
in_range a (suc n) k (inl e) = (omega (arith, e), omega (arith, e))
in_range a (suc n) k (inr h) = let r = in_range (a + 1) n k h in (omega (arith, r.0), omega (arith, r.1))

pub range_in : (a n k : ℕ) → a ≤ k → k < a + n → In (range_with_len a n) k
range_in a zero k l h = absurd (omega (arith, l, h))
range_in a (suc n) k l h = by (below_or a k) (λ m. range_in (a + 1) n k m (omega (arith, h)))
  where
    below_or : (x y : ℕ) → (x < y) ⊎ (y ≤ x)
    below_or x zero = inr (omega arith)
    below_or zero (suc y) = inl (omega arith)
    below_or (suc x) (suc y) = lift (below_or x y)
      where
        lift : (x < y) ⊎ (y ≤ x) → (suc x < suc y) ⊎ (suc y ≤ suc x)
        lift (inl l) = inl (omega (arith, l))
        lift (inr l) = inr (omega (arith, l))

    by : (a < k) ⊎ (k ≤ a) → (a + 1 ≤ k → In (range_with_len (a + 1) n) k) → In (range_with_len a (suc n)) k
    by (inl m) f = inr (f (omega (arith, m)))
    by (inr m) f = inl (omega (arith, m, l))

pub once_range : (a n : ℕ) → Once (range_with_len a n)
once_range a zero = tt
once_range a (suc n) = ((λ i. let r = in_range (a + 1) n a i in absurd (omega (arith, r.0))), once_range (a + 1) n)

pub in_moved : (c : ℕ) (os : List ℕ) (k : ℕ) → In (map (λ o. c + o) os) k → (o : ℕ) × In os o × (k ≡ c + o)
in_moved c [] k h = absurd h
in_moved c (o ∷ os) k (inl e) = (o, inl refl, e)
in_moved c (o ∷ os) k (inr h) = let r = in_moved c os k h in (r.0, inr r.1, r.2)

pub moved_in : (c : ℕ) (os : List ℕ) (o : ℕ) → In os o → In (map (λ o. c + o) os) (c + o)
moved_in c [] o h = absurd h
moved_in c (p ∷ os) o (inl e) = inl (ap (λ z. c + z) e)
moved_in c (p ∷ os) o (inr h) = inr (moved_in c os o h)

pub once_moved : (c : ℕ) (os : List ℕ) → Once os → Once (map (λ o. c + o) os)
once_moved c [] h = tt
once_moved c (o ∷ os) h = ((λ i. let r = in_moved c os (c + o) i in let e : o ≡ r.0 = let s = r.2 in omega (arith, s) in h.0 (subst (In os) (sym e) r.1)), once_moved c os h.1)

pub moved_once : (c : ℕ) (os : List ℕ) → Once (map (λ o. c + o) os) → Once os
moved_once c [] h = tt
moved_once c (o ∷ os) h = ((λ i. h.0 (moved_in c os o i)), moved_once c os h.1)
