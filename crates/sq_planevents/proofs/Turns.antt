-- Turns of strided arrays that stand at one place.
use Rattle.std.proofs.Common.{◌≡◌, ℕ, zero, suc, ◌+◌, ◌-◌, ◌*◌, ◌/◌, ◌%◌, ◌<◌, ◌≤◌, ◌==◌, ◌&&◌, Bool, true, false, if◌then◌else◌, List, [], ◌∷◌, length, refl, sym, ap, ap₂, subst, ◌∙◌, ◌⊎◌, inl, inr, arith}
use Rattle.std.specs.Prelude.{not, nat_lt}
use Rattle.std.proofs.Math.Nat.{mul-le-mul_right, add-mul, zero-mul}
use Rattle.std.proofs.lemmas.Nat.{div-add-mod', div-mul-add, mod-mul-add, le-div}
use Rattle.std.proofs.lemmas.Bool.Decides.{nat_tests}
use Rattle.sq_areas.specs.declared.areas.Step.{Step}
use Rattle.sq_planevents.specs.Twice.{IsOff, Meet, IsTwice, span_of, NoMeet, AreWithin, NoTwin, between, leads}

below_or : (x y : ℕ) → (x < y) ⊎ (y ≤ x)
below_or x zero = inr (omega arith)
below_or zero (suc y) = inl (omega arith)
below_or (suc x) (suc y) = lift (below_or x y)
  where
    lift : (x < y) ⊎ (y ≤ x) → (suc x < suc y) ⊎ (suc y ≤ suc x)
    lift (inl l) = inl (omega (arith, l))
    lift (inr l) = inr (omega (arith, l))

pub turn_inside : (k count step : ℕ) → k < count → k * step ≤ (count - 1) * step
turn_inside k count step l = mul-le-mul_right step (omega (arith, l))

-- ---- arrays that meet

off_near : (ds : List Step) (o : ℕ) → IsOff ds o → o ≤ span_of ds
off_near [] o h = omega (arith, h)
off_near (d ∷ ds) o h =
    let r = off_near ds h.2 h.3 in
    let m = turn_inside h.0 d.count d.step h.1 in
    let e = h.4 in
    omega (arith, r, m, e)

pub meet_near : (ds : List Step) (x y : ℕ) → Meet ds x y → x ≤ y + span_of ds
meet_near ds x y m = let r = off_near ds m.other m.of_other in let e = m.same in omega (arith, r, e)

pub meet_empty : (x y : ℕ) → x ≡ y → Meet [] x y
meet_empty x y e = record { one = 0; other = 0; of_one = refl; of_other = refl; same = ap (λ z. z + 0) e }

pub apart_empty : (x y : ℕ) → (x ≡ y → ⊥) → ¬ Meet [] x y
apart_empty x y n m = let a = m.of_one in let b = m.of_other in let e = m.same in n (omega (arith, a, b, e))

-- one turn of the one or of the other brings them together
turn_meets : (d : Step) (ds : List Step) (x y k : ℕ) → k < d.count → Meet ds (x + k * d.step) y → Meet (d ∷ ds) x y
turn_meets d ds x y k l m =
    let e = m.same in
    let z = zero-mul d.step in
    record {
      one = k * d.step + m.one;
      other = 0 * d.step + m.other;
      of_one = (k, l, m.one, m.of_one, refl);
      of_other = (0, omega (arith, l), m.other, m.of_other, refl);
      same = omega (arith, e, z);
    }

other_meets : (d : Step) (ds : List Step) (x y k : ℕ) → k < d.count → Meet ds x (y + k * d.step) → Meet (d ∷ ds) x y
other_meets d ds x y k l m =
    let e = m.same in
    let z = zero-mul d.step in
    record {
      one = 0 * d.step + m.one;
      other = k * d.step + m.other;
      of_one = (0, omega (arith, l), m.one, m.of_one, refl);
      of_other = (k, l, m.other, m.of_other, refl);
      same = omega (arith, e, z);
    }

none_meets : (d : Step) (ds : List Step) (x y : ℕ) → NoMeet d ds x y d.count → ¬ Meet (d ∷ ds) x y
none_meets d ds x y n m = by (below_or t u)
  where
    t : ℕ
    t = m.of_one.0

    u : ℕ
    u = m.of_other.0

    by : (t < u) ⊎ (u ≤ t) → ⊥
    by (inl l) =
        let a = add-mul t (u - t) d.step in
        let z : t + (u - t) ≡ u = omega (arith, l) in
        let w : (t + (u - t)) * d.step ≡ u * d.step = ap (λ v. v * d.step) z in
        let p = m.of_one.4 in
        let q = m.of_other.4 in
        let e = m.same in
        let k = m.of_other.1 in
        n.second (u - t) (omega (arith, k)) (record { one = m.of_one.2; other = m.of_other.2; of_one = m.of_one.3; of_other = m.of_other.3; same = omega (arith, a, w, p, q, e) })
    by (inr l) =
        let a = add-mul u (t - u) d.step in
        let z : u + (t - u) ≡ t = omega (arith, l) in
        let w : (u + (t - u)) * d.step ≡ t * d.step = ap (λ v. v * d.step) z in
        let p = m.of_one.4 in
        let q = m.of_other.4 in
        let e = m.same in
        let k = m.of_one.1 in
        n.first (t - u) (omega (arith, k)) (record { one = m.of_one.2; other = m.of_other.2; of_one = m.of_one.3; of_other = m.of_other.3; same = omega (arith, a, w, p, q, e) })

-- ---- the turns, one after another

pub meets_start : (d : Step) (ds : List Step) (x y : ℕ) → NoMeet d ds x y 0
meets_start d ds x y = record { first = λ k l m. absurd (omega (arith, l)); second = λ k l m. absurd (omega (arith, l)) }

pub meets_more : (d : Step) (ds : List Step) (x y k u v : ℕ) → NoMeet d ds x y k → u ≡ x + k * d.step → v ≡ y + k * d.step → ¬ Meet ds u y → ¬ Meet ds x v → NoMeet d ds x y (k + 1)
meets_more d ds x y k u v h e f m n = record {
  first = λ j l w. by_first j l w (below_or j k);
  second = λ j l w. by_second j l w (below_or j k);
}
  where
    by_first : (j : ℕ) → j < k + 1 → Meet ds (x + j * d.step) y → (j < k) ⊎ (k ≤ j) → ⊥
    by_first j l w (inl g) = h.first j g w
    by_first j l w (inr g) = let z : j ≡ k = omega (arith, l, g) in m (subst (λ b. Meet ds b y) (ap (λ i. x + i * d.step) z ∙ sym e) w)

    by_second : (j : ℕ) → j < k + 1 → Meet ds x (y + j * d.step) → (j < k) ⊎ (k ≤ j) → ⊥
    by_second j l w (inl g) = h.second j g w
    by_second j l w (inr g) = let z : j ≡ k = omega (arith, l, g) in n (subst (λ b. Meet ds x b) (ap (λ i. y + i * d.step) z ∙ sym f) w)

pub meets_yes : (steps : List Step) (d : Step) (ds : List Step) (x y k u : ℕ) → steps ≡ d ∷ ds → k < d.count → u ≡ x + k * d.step → Meet ds u y → Meet steps x y
meets_yes steps d ds x y k u s l e m = subst (λ z. Meet z x y) (sym s) (turn_meets d ds x y k l (subst (λ b. Meet ds b y) e m))

pub meets_other : (steps : List Step) (d : Step) (ds : List Step) (x y k u : ℕ) → steps ≡ d ∷ ds → k < d.count → u ≡ y + k * d.step → Meet ds x u → Meet steps x y
meets_other steps d ds x y k u s l e m = subst (λ z. Meet z x y) (sym s) (other_meets d ds x y k l (subst (λ b. Meet ds x b) e m))

pub meets_none : (steps : List Step) (d : Step) (ds : List Step) (x y n : ℕ) → steps ≡ d ∷ ds → d.count ≤ n → NoMeet d ds x y n → ¬ Meet steps x y
meets_none steps d ds x y n s l h m = none_meets d ds x y (record { first = λ k j. h.first k (omega (arith, j, l)); second = λ k j. h.second k (omega (arith, j, l)) }) (subst (λ z. Meet z x y) s m)

-- ---- the last step

-- so far apart are two of its turns
abbrev LeadsTo : Step → ℕ → Type 0
LeadsTo d far = (k : ℕ) × (k < d.count) × (far ≡ k * d.step)

and_both : (a b : Bool) → (a && b) ≡ true → (a ≡ true) × (b ≡ true)
and_both true b h = (refl, h)
and_both false b h = cc

leads_yes : (d : Step) (far : ℕ) → leads d far ≡ true → LeadsTo d far
leads_yes d far h = by (d.step == 0) refl h
  where
    by : (b : Bool) → (d.step == 0) ≡ b → (if b then far == 0 && not (d.count == 0) else far % d.step == 0 && nat_lt (far / d.step) d.count) ≡ true → LeadsTo d far
    by true e h =
        let p = and_both (far == 0) (not (d.count == 0)) h in
        let z : far ≡ 0 = grind (arith, nat_tests, p.0) in
        let c : 0 < d.count = grind (arith, nat_tests, p.1) in
        let m = zero-mul d.step in
        (0, c, omega (arith, z, m))
    by false e h =
        let p = and_both (far % d.step == 0) (nat_lt (far / d.step) d.count) h in
        let z : far % d.step ≡ 0 = grind (arith, nat_tests, p.0) in
        let c : far / d.step < d.count = grind (arith, nat_tests, p.1) in
        let q = div-add-mod' far d.step in
        (far / d.step, c, omega (arith, q, z))

leads_none : (d : Step) (far : ℕ) → leads d far ≡ false → LeadsTo d far → ⊥
leads_none d far h l = by (d.step == 0) refl h
  where
    k : ℕ
    k = l.0

    by : (b : Bool) → (d.step == 0) ≡ b → (if b then far == 0 && not (d.count == 0) else far % d.step == 0 && nat_lt (far / d.step) d.count) ≡ false → ⊥
    by true e h =
        let s : d.step ≡ 0 = grind (arith, nat_tests, e) in
        let m : far ≡ 0 = l.2 ∙ ap (λ v. k * v) s ∙ omega arith in
        let c = l.1 in
        let a : (far == 0) ≡ true = grind (arith, nat_tests, m) in
        let b : not (d.count == 0) ≡ true = grind (arith, nat_tests, c) in
        let f : (true && true) ≡ false = sym (ap₂ (λ u v. u && v) a b) ∙ h in
        cc
    by false e h =
        let s : 0 < d.step = grind (arith, nat_tests, e) in
        let q : far ≡ k * d.step + 0 = let z = l.2 in omega (arith, z) in
        let m : far % d.step ≡ 0 = ap (λ v. v % d.step) q ∙ mod-mul-add k d.step 0 s in
        let v : far / d.step ≡ k = ap (λ v. v / d.step) q ∙ div-mul-add k d.step 0 s in
        let c = l.1 in
        let a : (far % d.step == 0) ≡ true = grind (arith, nat_tests, m) in
        let b : nat_lt (far / d.step) d.count ≡ true = grind (arith, nat_tests, c, v) in
        let f : (true && true) ≡ false = sym (ap₂ (λ u v. u && v) a b) ∙ h in
        cc

-- how far apart they are is what one turn leads over
meet_leads : (d : Step) (x y : ℕ) → LeadsTo d (between x y) → Meet (d ∷ []) x y
meet_leads d x y l = by (nat_lt x y) refl l
  where
    by : (b : Bool) → nat_lt x y ≡ b → LeadsTo d (if b then y - x else x - y) → Meet (d ∷ []) x y
    by true e l =
        let g : x < y = grind (arith, nat_tests, e) in
        let m = l.2 in
        turn_meets d [] x y l.0 l.1 (meet_empty (x + l.0 * d.step) y (omega (arith, g, m)))
    by false e l =
        let g : y ≤ x = grind (arith, nat_tests, e) in
        let m = l.2 in
        other_meets d [] x y l.0 l.1 (meet_empty x (y + l.0 * d.step) (omega (arith, g, m)))

leads_meet : (d : Step) (x y : ℕ) → (LeadsTo d (between x y) → ⊥) → ¬ Meet (d ∷ []) x y
leads_meet d x y n = none_meets d [] x y (record { first = λ k l m. by_first k l m (nat_lt x y) refl n; second = λ k l m. by_second k l m (nat_lt x y) refl n })
  where
    by_first : (k : ℕ) → k < d.count → Meet [] (x + k * d.step) y → (b : Bool) → nat_lt x y ≡ b → (LeadsTo d (if b then y - x else x - y) → ⊥) → ⊥
    by_first k l m true e n = let a = m.of_one in let b = m.of_other in let s = m.same in n (k, l, omega (arith, a, b, s))
    by_first k l m false e n =
        let g : y ≤ x = grind (arith, nat_tests, e) in
        let a = m.of_one in let b = m.of_other in let s = m.same in
        let z = zero-mul d.step in
        n (0, omega (arith, l), omega (arith, a, b, s, g, z))

    by_second : (k : ℕ) → k < d.count → Meet [] x (y + k * d.step) → (b : Bool) → nat_lt x y ≡ b → (LeadsTo d (if b then y - x else x - y) → ⊥) → ⊥
    by_second k l m true e n =
        let g : x < y = grind (arith, nat_tests, e) in
        let a = m.of_one in let b = m.of_other in let s = m.same in
        absurd (omega (arith, a, b, s, g))
    by_second k l m false e n = let a = m.of_one in let b = m.of_other in let s = m.same in n (k, l, omega (arith, a, b, s))

pub meet_last : (d : Step) (steps rest : List Step) (x y far : ℕ) → steps ≡ d ∷ rest → rest ≡ [] → far ≡ between x y → leads d far ≡ true → Meet steps x y
meet_last d steps rest x y far s r e h = subst (λ z. Meet z x y) (sym (s ∙ ap (λ l. d ∷ l) r)) (meet_leads d x y (subst (LeadsTo d) e (leads_yes d far h)))

pub apart_last : (d : Step) (steps rest : List Step) (x y far : ℕ) → steps ≡ d ∷ rest → rest ≡ [] → far ≡ between x y → leads d far ≡ false → ¬ Meet steps x y
apart_last d steps rest x y far s r e h m = leads_meet d x y (λ l. leads_none d far h (subst (LeadsTo d) (sym e) l)) (subst (λ z. Meet z x y) (s ∙ ap (λ l. d ∷ l) r) m)

-- ---- turns within reach

pub all_within : (d : Step) (reach : ℕ) → AreWithin d reach d.count
all_within d reach = record { few = omega arith; all = λ k l h. l }

pub some_within : (d : Step) (reach : ℕ) → (d.step ≡ 0 → ⊥) → reach / d.step < d.count → AreWithin d reach (reach / d.step + 1)
some_within d reach n l = record { few = omega (arith, l); all = λ k c h. let z = le-div k reach d.step (some d.step n) h in omega (arith, z) }
  where
    some : (s : ℕ) → (s ≡ 0 → ⊥) → 0 < s
    some zero f = absurd (f refl)
    some (suc s) f = omega arith

pub no_twin_start : (d : Step) (ds : List Step) → NoTwin d ds 1
no_twin_start d ds = record { none = λ k l h m. absurd (omega (arith, l, h)) }

pub no_twin_more : (d : Step) (ds : List Step) (k u : ℕ) → NoTwin d ds k → u ≡ 0 + k * d.step → ¬ Meet ds u 0 → NoTwin d ds (k + 1)
no_twin_more d ds k u h e n = record { none = λ j l g m. by j l g m (below_or j k) }
  where
    by : (j : ℕ) → 1 ≤ j → j < k + 1 → Meet ds (j * d.step) 0 → (j < k) ⊎ (k ≤ j) → ⊥
    by j l g m (inl b) = h.none j l b m
    by j l g m (inr b) = let z : j ≡ k = omega (arith, g, b) in let w : j * d.step ≡ u = ap (λ i. i * d.step) z ∙ omega (arith, e) in n (subst (λ i. Meet ds i 0) w m)

pub twice_here : (steps : List Step) (d : Step) (ds : List Step) (k turns reach u : ℕ) → steps ≡ d ∷ ds → AreWithin d reach turns → 1 ≤ k → k < turns → u ≡ 0 + k * d.step → Meet ds u 0 → IsTwice steps
twice_here steps d ds k turns reach u s w l g e m =
    let few = w.few in
    subst IsTwice (sym s) (inl (k, l, omega (arith, g, few), subst (λ i. Meet ds i 0) (let z : u ≡ k * d.step = omega (arith, e) in z) m))

pub twice_later : (steps : List Step) (d : Step) (ds : List Step) → steps ≡ d ∷ ds → IsTwice ds → IsTwice steps
twice_later steps d ds s h = subst IsTwice (sym s) (inr h)

pub none_twice : (steps : List Step) → steps ≡ [] → ¬ IsTwice steps
none_twice steps s h = subst IsTwice s h

pub never_twice : (steps : List Step) (d : Step) (ds : List Step) (turns reach n : ℕ) → steps ≡ d ∷ ds → AreWithin d reach turns → reach ≡ span_of ds → turns ≤ n → NoTwin d ds n → ¬ IsTwice ds → ¬ IsTwice steps
never_twice steps d ds turns reach n s w r l h g t = by (subst IsTwice s t)
  where
    by : IsTwice (d ∷ ds) → ⊥
    by (inl z) =
        let near = meet_near ds (z.0 * d.step) 0 z.3 in
        let k = w.all z.0 z.2 (omega (arith, near, r)) in
        h.none z.0 z.1 (omega (arith, k, l)) z.3
    by (inr z) = g z

pub empty_is : (xs : List Step) (told : Bool) → told ≡ (length xs == 0) → told ≡ true → xs ≡ []
empty_is [] told e h = refl
empty_is (x ∷ xs) told e h = let f : (suc (length xs) == 0) ≡ true = sym e ∙ h in let g : suc (length xs) ≡ 0 = grind (arith, nat_tests, f) in absurd (omega (arith, g))
