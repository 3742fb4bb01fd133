-- The bytes of a view are distinct exactly where no two of its elements stand at one place.
use Rattle.std.proofs.Common.{◌≡◌, ℕ, zero, suc, ◌+◌, ◌-◌, ◌*◌, ◌<◌, ◌≤◌, List, [], ◌∷◌, ◌++◌, map, length, refl, sym, ap, ap₂, subst, ◌∙◌, ◌⊎◌, inl, inr, arith}
use Rattle.std.specs.List.{All, range_with_len, flat_map}
use Rattle.std.proofs.Math.Nat.{mul-le-mul_right, add-mul}
use Rattle.sq_num.specs.declared.Elem.{Elem}
use Rattle.sq_num.specs.declared.Elem.TheVariants as el
use Rattle.sq_num.specs.Elements.{width}
use Rattle.sq_rect.specs.declared.view.View.{View}
use Rattle.sq_rect.specs.Placing.{offset}
use Rattle.sq_ir.specs.Events.{coordinates, places}
use Rattle.sq_ir.specs.Plans.{AreDistinct}
use Rattle.sq_planevents.specs.Twice.{IsOff, IsTwice, turns_of}
use Rattle.sq_planevents.proofs.Members.{In, Once, once, distinct, in_left, in_right, in_either, once_both, once_left, once_right, once_apart, in_range, range_in, once_range, in_moved, moved_in, once_moved, moved_once}

below_or : (x y : ℕ) → (x < y) ⊎ (y ≤ x)
below_or x zero = inr (omega arith)
below_or zero (suc y) = inl (omega arith)
below_or (suc x) (suc y) = lift (below_or x y)
  where
    lift : (x < y) ⊎ (y ≤ x) → (suc x < suc y) ⊎ (suc y ≤ suc x)
    lift (inl l) = inl (omega (arith, l))
    lift (inr l) = inr (omega (arith, l))

-- ---- a run of bytes for each number of a list

module _ (at w : ℕ) where
  abbrev run : ℕ → List ℕ
  run o = range_with_len (at + w * o) w

  abbrev runs : List ℕ → List ℕ
  runs os = flat_map run os

  -- the byte is one of the run of this number
  abbrev Has : ℕ → ℕ → Type 0
  Has k o = (at + w * o ≤ k) × (k < at + w * o + w)

  not_less : (k o p : ℕ) → o < p → Has k o → Has k p → ⊥
  not_less k o p l h g =
      let m : (o + 1) * w ≤ p * w = mul-le-mul_right w (omega (arith, l)) in
      let a = add-mul o 1 w in
      let x = h.1 in
      let y = g.0 in
      absurd (omega (arith, m, a, x, y))

  one_number : (k o p : ℕ) → Has k o → Has k p → o ≡ p
  one_number k o p h g = by (below_or o p) (below_or p o)
    where
      by : (o < p) ⊎ (p ≤ o) → (p < o) ⊎ (o ≤ p) → o ≡ p
      by (inl l) m = absurd (not_less k o p l h g)
      by (inr l) (inl m) = absurd (not_less k p o m g h)
      by (inr l) (inr m) = omega (arith, l, m)

  in_runs : (os : List ℕ) (k : ℕ) → In (runs os) k → (o : ℕ) × In os o × Has k o
  in_runs [] k h = absurd h
  in_runs (o ∷ os) k h = by (in_either (run o) (runs os) k h) (in_runs os k)
    where
      by : In (run o) k ⊎ In (runs os) k → (In (runs os) k → (p : ℕ) × In os p × Has k p) → (p : ℕ) × In (o ∷ os) p × Has k p
      by (inl i) f = (o, inl refl, in_range (at + w * o) w k i)
      by (inr i) f = let r = f i in (r.0, inr r.1, r.2)

  runs_in : (os : List ℕ) (k o : ℕ) → In os o → Has k o → In (runs os) k
  runs_in [] k o h b = absurd h
  runs_in (p ∷ os) k o (inl e) b = in_left (run p) (runs os) k (subst (λ z. In (run z) k) e (range_in (at + w * o) w k b.0 b.1))
  runs_in (p ∷ os) k o (inr h) b = in_right (run p) (runs os) k (runs_in os k o h b)

  once_runs : (os : List ℕ) → Once os → Once (runs os)
  once_runs [] h = tt
  once_runs (o ∷ os) h = once_both (run o) (runs os) (once_range (at + w * o) w) (once_runs os h.1) (λ k i j. let r = in_runs os k j in h.0 (subst (In os) (one_number k r.0 o r.2 (in_range (at + w * o) w k i)) r.1))

  runs_once : 0 < w → (os : List ℕ) → Once (runs os) → Once os
  runs_once p [] h = tt
  runs_once p (o ∷ os) h =
      let b : Has (at + w * o) o = (omega arith, omega (arith, p)) in
      ((λ i. once_apart (run o) (runs os) h (at + w * o) (range_in (at + w * o) w (at + w * o) b.0 b.1) (runs_in os (at + w * o) o i b)), runs_once p os (once_right (run o) (runs os) h))

-- ---- where elements stand

-- these numbers for each turn from a on, so many, a step further each time
abbrev turned : (s : ℕ) (os : List ℕ) (a m : ℕ) → List ℕ
turned s os a m = flat_map (λ x. map (λ o. x * s + o) os) (range_with_len a m)

abbrev offs : (ns ss : List ℕ) → List ℕ
offs [] ss = 0 ∷ []
offs (n ∷ ns) [] = []
offs (n ∷ ns) (s ∷ ss) = turned s (offs ns ss) 0 n

module _ (s : ℕ) (os : List ℕ) where
  in_turned : (a m k : ℕ) → In (turned s os a m) k → (x : ℕ) × (a ≤ x) × (x < a + m) × (o : ℕ) × In os o × (k ≡ x * s + o)
  in_turned a zero k h = absurd h
  in_turned a (suc m) k h = by (in_either (map (λ o. a * s + o) os) (turned s os (a + 1) m) k h) (in_turned (a + 1) m k)
    where
      by : In (map (λ o. a * s + o) os) k ⊎ In (turned s os (a + 1) m) k → (In (turned s os (a + 1) m) k → (x : ℕ) × (a + 1 ≤ x) × (x < a + 1 + m) × (o : ℕ) × In os o × (k ≡ x * s + o))
          → (x : ℕ) × (a ≤ x) × (x < a + suc m) × (o : ℕ) × In os o × (k ≡ x * s + o)
      by (inl i) f = let r = in_moved (a * s) os k i in (a, omega arith, omega arith, r.0, r.1, r.2)
      by (inr i) f = let r = f i in let l = r.1 in let u = r.2 in (r.0, omega (arith, l), omega (arith, u), r.3, r.4, r.5)

  turned_in : (a m x o : ℕ) → a ≤ x → x < a + m → In os o → In (turned s os a m) (x * s + o)
  turned_in a zero x o l u h = absurd (omega (arith, l, u))
  turned_in a (suc m) x o l u h = by (below_or a x) (λ g. turned_in (a + 1) m x o g (omega (arith, u)) h)
    where
      by : (a < x) ⊎ (x ≤ a) → (a + 1 ≤ x → In (turned s os (a + 1) m) (x * s + o)) → In (turned s os a (suc m)) (x * s + o)
      by (inl g) f = in_right (map (λ o. a * s + o) os) (turned s os (a + 1) m) (x * s + o) (f (omega (arith, g)))
      by (inr g) f = let e : a ≡ x = omega (arith, g, l) in in_left (map (λ o. a * s + o) os) (turned s os (a + 1) m) (x * s + o) (subst (λ z. In (map (λ o. a * s + o) os) (z * s + o)) e (moved_in (a * s) os o h))

  -- no two turns have a number in common
  abbrev Apart : (a m : ℕ) → Type 0
  Apart a m = (x y o p : ℕ) → a ≤ x → x < y → y < a + m → In os o → In os p → x * s + o ≡ y * s + p → ⊥

  once_turned : (a m : ℕ) → Once os → Apart a m → Once (turned s os a m)
  once_turned a zero h g = tt
  once_turned a (suc m) h g =
      once_both (map (λ o. a * s + o) os) (turned s os (a + 1) m) (once_moved (a * s) os h) (once_turned (a + 1) m h (λ x y o p l k u. g x y o p (omega (arith, l)) k (omega (arith, u))))
      (λ k i j. let q = in_moved (a * s) os k i in let r = in_turned (a + 1) m k j in let l = r.1 in let u = r.2 in
      g a r.0 q.0 r.3 (omega arith) (omega (arith, l)) (omega (arith, u)) q.1 r.4 (sym q.2 ∙ r.5))

  turned_once : (a m : ℕ) → 0 < m → Once (turned s os a m) → Once os
  turned_once a zero p h = absurd (omega (arith, p))
  turned_once a (suc m) p h = moved_once (a * s) os (once_left (map (λ o. a * s + o) os) (turned s os (a + 1) m) h)

  turned_apart : (a m : ℕ) → Once (turned s os a m) → Apart a m
  turned_apart a zero h x y o p l k u i j e = absurd (omega (arith, l, k, u))
  turned_apart a (suc m) h x y o p l k u i j e =
      by (below_or a x) (λ g. turned_apart (a + 1) m (once_right (map (λ o. a * s + o) os) (turned s os (a + 1) m) h) x y o p g k (omega (arith, u)) i j e)
    where
      by : (a < x) ⊎ (x ≤ a) → (a + 1 ≤ x → ⊥) → ⊥
      by (inl g) f = f (omega (arith, g))
      by (inr g) f =
          let z : a ≡ x = omega (arith, g, l) in
          once_apart (map (λ o. a * s + o) os) (turned s os (a + 1) m) h (y * s + p)
          (subst (In (map (λ o. a * s + o) os)) (ap (λ v. v * s + o) z ∙ e) (moved_in (a * s) os o i))
          (turned_in (a + 1) m y p (omega (arith, k, z)) (omega (arith, u)) j)

-- ---- steps

off_in : (ns ss : List ℕ) (o : ℕ) → length ss ≡ length ns → IsOff (turns_of ns ss) o → In (offs ns ss) o
off_in [] ss o e h = inl h
off_in (n ∷ ns) [] o e h = absurd (omega (arith, e))
off_in (n ∷ ns) (s ∷ ss) o e h =
    let l = h.1 in
    subst (In (offs (n ∷ ns) (s ∷ ss))) (sym h.4) (turned_in s (offs ns ss) 0 n h.0 h.2 (omega arith) (omega (arith, l)) (off_in ns ss h.2 (omega (arith, e)) h.3))

in_off : (ns ss : List ℕ) (o : ℕ) → length ss ≡ length ns → In (offs ns ss) o → IsOff (turns_of ns ss) o
in_off [] ss o e (inl h) = h
in_off [] ss o e (inr h) = absurd h
in_off (n ∷ ns) [] o e h = absurd h
in_off (n ∷ ns) (s ∷ ss) o e h =
    let r = in_turned s (offs ns ss) 0 n o h in
    let u = r.2 in
    (r.0, omega (arith, u), r.3, in_off ns ss r.3 (omega (arith, e)) r.4, r.5)

once_offs : (ns ss : List ℕ) → length ss ≡ length ns → (IsTwice (turns_of ns ss) → ⊥) → Once (offs ns ss)
once_offs [] ss e h = ((λ i. i), tt)
once_offs (n ∷ ns) [] e h = tt
once_offs (n ∷ ns) (s ∷ ss) e h =
    let f : length ss ≡ length ns = omega (arith, e) in
    once_turned s (offs ns ss) 0 n (once_offs ns ss f (λ t. h (inr t)))
    (λ x y o p l k u i j q.
    let a = add-mul x (y - x) s in
    let z : x + (y - x) ≡ y = omega (arith, k) in
    let m : (x + (y - x)) * s ≡ y * s = ap (λ v. v * s) z in
    h (inl (y - x, omega (arith, k), omega (arith, u), record { one = p; other = o; of_one = in_off ns ss p f j; of_other = in_off ns ss o f i; same = omega (arith, q, a, m) })))

twice_offs : (ns ss : List ℕ) → length ss ≡ length ns → All (λ n. 0 < n) ns → Once (offs ns ss) → IsTwice (turns_of ns ss) → ⊥
twice_offs [] ss e a h t = t
twice_offs (n ∷ ns) [] e a h t = t
twice_offs (n ∷ ns) (s ∷ ss) e a h (inl t) =
    let f : length ss ≡ length ns = omega (arith, e) in
    let m = t.3 in
    let q = m.same in
    let low = t.1 in
    let high = t.2 in
    turned_apart s (offs ns ss) 0 n h 0 t.0 m.other m.one (omega arith) low (omega (arith, high)) (off_in ns ss m.other f m.of_other) (off_in ns ss m.one f m.of_one) (omega (arith, q))
twice_offs (n ∷ ns) (s ∷ ss) e a h (inr t) =
    twice_offs ns ss (omega (arith, e)) (λ k d l. a (suc k) d (omega (arith, l))) (turned_once s (offs ns ss) 0 n (a 0 n (omega arith)) h) t

-- ---- views

map_flat : {X : Type 0} (f : List ℕ → ℕ) (g : X → List (List ℕ)) (h : X → List ℕ) (xs : List X) → ((x : X) → map f (g x) ≡ h x) → map f (flat_map g xs) ≡ flat_map h xs
map_flat f g h [] e = refl
map_flat f g h (x ∷ xs) e = map_append (g x) (flat_map g xs) ∙ ap₂ (λ u v. u ++ v) (e x) (map_flat f g h xs e)
  where
    map_append : (us vs : List (List ℕ)) → map f (us ++ vs) ≡ map f us ++ map f vs
    map_append [] vs = refl
    map_append (u ∷ us) vs = ap (λ l. f u ∷ l) (map_append us vs)

offs_are : (ns ss : List ℕ) → length ss ≡ length ns → map (offset ss) (coordinates ns) ≡ offs ns ss
offs_are [] [] e = refl
offs_are [] (s ∷ ss) e = absurd (omega (arith, e))
offs_are (n ∷ ns) [] e = absurd (omega (arith, e))
offs_are (n ∷ ns) (s ∷ ss) e =
    map_flat (offset (s ∷ ss)) (λ x. map (λ c. x ∷ c) (coordinates ns)) (λ x. map (λ o. x * s + o) (offs ns ss)) (range_with_len 0 (n - 0))
    (λ x. map_twice x (coordinates ns) ∙ ap (map (λ o. x * s + o)) (offs_are ns ss (omega (arith, e))))
    ∙ ap (turned s (offs ns ss) 0) (let z : n - 0 ≡ n = omega arith in z)
  where
    map_twice : (x : ℕ) (cs : List (List ℕ)) → map (offset (s ∷ ss)) (map (λ c. x ∷ c) cs) ≡ map (λ o. x * s + o) (map (offset ss) cs)
    map_twice x [] = refl
    map_twice x (c ∷ cs) = ap (λ l. (x * s + offset ss c) ∷ l) (map_twice x cs)

flat_runs : (at w : ℕ) (g : List ℕ → ℕ) (cs : List (List ℕ)) → flat_map (λ c. range_with_len (at + w * g c) w) cs ≡ runs at w (map g cs)
flat_runs at w g [] = refl
flat_runs at w g (c ∷ cs) = ap (λ l. range_with_len (at + w * g c) w ++ l) (flat_runs at w g cs)

width_some : (e : Elem) → 0 < width e
width_some el.Byte = omega arith
width_some el.Int = omega arith
width_some el.Long = omega arith

module _ (v : View) (len : length v.strides ≡ length v.extents) where
  places_are : places v ≡ runs v.at (width v.elem) (offs v.extents v.strides)
  places_are = flat_runs v.at (width v.elem) (offset v.strides) (coordinates v.extents) ∙ ap (runs v.at (width v.elem)) (offs_are v.extents v.strides len)

  pub places_once : (IsTwice (turns_of v.extents v.strides) → ⊥) → AreDistinct (places v)
  places_once h = distinct (places v) (subst Once (sym places_are) (once_runs v.at (width v.elem) (offs v.extents v.strides) (once_offs v.extents v.strides len h)))

  pub places_twice : All (λ n. 0 < n) v.extents → IsTwice (turns_of v.extents v.strides) → AreDistinct (places v) → ⊥
  places_twice a t d = twice_offs v.extents v.strides len a (runs_once v.at (width v.elem) (width_some v.elem) (offs v.extents v.strides) (subst Once places_are (once (places v) d))) t
