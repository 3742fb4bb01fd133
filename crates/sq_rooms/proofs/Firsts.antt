-- The first lack of room, name by name.
use Rattle.std.proofs.Common.{◌≡◌, ℕ, ◌+◌, ◌-◌, ◌*◌, ◌^◌, ◌<◌, ◌≤◌, ◌⊎◌, inl, inr, Bool, true, false, Option, Some, None, List, [], ◌∷◌, refl, sym, ap, ap₂, subst, ◌∙◌, arith}
use Rattle.std.specs.Prelude.{if◌then◌else◌}
use Rattle.std.proofs.lemmas.Bool.{cases_lt}
use Rattle.sq_ir.specs.Written.{Setting}
use Rattle.sq_ir.specs.Plans.{setting_of}
use Rattle.sq_ir.specs.declared.plan.Plan.{Plan}
use Rattle.sq_check_laws.specs.Whole.{whole_of}
use Rattle.sq_rooms.specs.declared.named.Named.{Named}
use Rattle.sq_rooms.specs.declared.bound.Bound.{Bound}
use Rattle.sq_rooms.specs.declared.lack.Lack.{Lack}
use Rattle.sq_rooms.specs.Names.{Has, names, Over, MeetIn, LackIn}
use Rattle.sq_rooms.specs.Bounds.{comes_first, is_below, NoneBelow}
use Rattle.sq_rooms.specs.Rivals.{earliest}
use Rattle.sq_rooms.specs.Lacks.{sooner, sooner_from, next, IsFirstIn, IsFirstOf}
use Rattle.sq_rooms.specs.Terms.{is_flat, plan_names}
use Rattle.sq_rooms.proofs.Together.{before-has, lack-in, lack-from}
use Rattle.sq_rooms.proofs.Flat.{plan-names}
use Rattle.sq_rooms.proofs.Shares.{wrong, Ahead, NotAhead, first-true, true-first, first-false, false-first, ahead-none, ahead-both}
use Rattle.sq_rooms.proofs.Least.{LeastOf, earliest-is}

-- ---- the next name

module _ (from : Bound) where
  abbrev pub IsNextOf : (Named → Type 0) → Option Named → Type 0
  IsNextOf Q None = (x : Named) → Q x → is_below x from ≡ true
  IsNextOf Q (Some k) = Q k × (is_below k from ≡ false) × ((x : Named) → Q x → is_below x from ≡ false → comes_first x.node x.buffer k.node k.buffer ≡ false)

  next-same : (Q R : Named → Type 0) (best : Option Named) → ((x : Named) → Q x → R x) → ((x : Named) → R x → Q x) → IsNextOf Q best → IsNextOf R best
  next-same Q R None f g h = λ x r. h x (g x r)
  next-same Q R (Some k) f g h = (f k h.0, h.1, λ x r. h.2 x (g x r))

  not-itself : (x : Named) → comes_first x.node x.buffer x.node x.buffer ≡ false
  not-itself x = false-first x.node x.buffer x.node x.buffer (ahead-none x.node x.buffer)

  next-more : (Q : Named → Type 0) (best : Option Named) (x : Named) → is_below x from ≡ false → IsNextOf Q best → IsNextOf (λ z. Q z ⊎ (x ≡ z)) (sooner best x)
  next-more Q None x e h = (inr refl, e, first)
    where
      first : (z : Named) → Q z ⊎ (x ≡ z) → is_below z from ≡ false → comes_first z.node z.buffer x.node x.buffer ≡ false
      first z (inl q) f = absurd (wrong (is_below z from) (h z q) f)
      first z (inr p) f = subst (λ (w : Named). comes_first w.node w.buffer x.node x.buffer ≡ false) p (not-itself x)
  next-more Q (Some k) x e h = by (comes_first x.node x.buffer k.node k.buffer) refl
    where
      by : (v : Bool) → comes_first x.node x.buffer k.node k.buffer ≡ v → IsNextOf (λ z. Q z ⊎ (x ≡ z)) (if v then Some x else Some k)
      by true c = (inr refl, e, first)
        where
          first : (z : Named) → Q z ⊎ (x ≡ z) → is_below z from ≡ false → comes_first z.node z.buffer x.node x.buffer ≡ false
          first z (inl q) f = false-first z.node z.buffer x.node x.buffer (λ a.
              wrong (comes_first z.node z.buffer k.node k.buffer) (true-first z.node z.buffer k.node k.buffer (ahead-both z.node z.buffer x.node x.buffer k.node k.buffer a (first-true x.node x.buffer k.node k.buffer c))) (h.2 z q f))
          first z (inr p) f = subst (λ (w : Named). comes_first w.node w.buffer x.node x.buffer ≡ false) p (not-itself x)
      by false c = (inl h.0, h.1, first)
        where
          first : (z : Named) → Q z ⊎ (x ≡ z) → is_below z from ≡ false → comes_first z.node z.buffer k.node k.buffer ≡ false
          first z (inl q) f = h.2 z q f
          first z (inr p) f = subst (λ (w : Named). comes_first w.node w.buffer k.node k.buffer ≡ false) p c

  next-from : (Q : Named → Type 0) (best : Option Named) (x : Named) → IsNextOf Q best → IsNextOf (λ z. Q z ⊎ (x ≡ z)) (sooner_from from best x)
  next-from Q best x h = by (is_below x from) refl
    where
      kept : (o : Option Named) → is_below x from ≡ true → IsNextOf Q o → IsNextOf (λ z. Q z ⊎ (x ≡ z)) o
      kept None e g = below
        where
          below : (z : Named) → Q z ⊎ (x ≡ z) → is_below z from ≡ true
          below z (inl q) = g z q
          below z (inr p) = subst (λ w. is_below w from ≡ true) p e
      kept (Some k) e g = (inl g.0, g.1, first)
        where
          first : (z : Named) → Q z ⊎ (x ≡ z) → is_below z from ≡ false → comes_first z.node z.buffer k.node k.buffer ≡ false
          first z (inl q) f = g.2 z q f
          first z (inr p) f = absurd (wrong (is_below x from) e (ap (λ w. is_below w from) p ∙ f))

      by : (v : Bool) → is_below x from ≡ v → IsNextOf (λ z. Q z ⊎ (x ≡ z)) (if v then best else sooner best x)
      by true e = kept best e h
      by false e = next-more Q best x e h

  next-is : (Q : Named → Type 0) (best : Option Named) (xs : List Named) → IsNextOf Q best → IsNextOf (λ z. Q z ⊎ Has xs z) (next from best xs)
  next-is Q best [] h = next-same Q (λ z. Q z ⊎ ⊥) best (λ z q. inl q) back h
    where
      back : (z : Named) → Q z ⊎ ⊥ → Q z
      back z (inl q) = q
      back z (inr e) = absurd e
  next-is Q best (x ∷ xs) h =
      next-same (λ z. (Q z ⊎ (x ≡ z)) ⊎ Has xs z) (λ z. Q z ⊎ Has (x ∷ xs) z) (next from best (x ∷ xs)) there back (next-is (λ z. Q z ⊎ (x ≡ z)) (sooner_from from best x) xs (next-from Q best x h))
    where
      there : (z : Named) → (Q z ⊎ (x ≡ z)) ⊎ Has xs z → Q z ⊎ Has (x ∷ xs) z
      there z (inl (inl q)) = inl q
      there z (inl (inr e)) = inr (inl e)
      there z (inr k) = inr (inr k)

      back : (z : Named) → Q z ⊎ Has (x ∷ xs) z → (Q z ⊎ (x ≡ z)) ⊎ Has xs z
      back z (inl q) = inl (inl q)
      back z (inr (inl e)) = inl (inr e)
      back z (inr (inr k)) = inr k

  pub next-of : (xs : List Named) → IsNextOf (Has xs) (next from None xs)
  next-of xs = next-same (λ z. ⊥ ⊎ Has xs z) (Has xs) (next from None xs) there (λ z k. inr k) (next-is (λ z. ⊥) None xs (λ z e. absurd e))
    where
      there : (z : Named) → ⊥ ⊎ Has xs z → Has xs z
      there z (inl e) = absurd e
      there z (inr k) = k

-- ---- the first lack

-- the name of the later buffer
pub record IsNamedIn (xs : List Named) (node c : ℕ) : Type 0 where
  pub name : Named
  pub there : Has xs name
  pub at : name.node ≡ node
  pub is : name.buffer ≡ c

module _ (s : Setting) (xs : List Named) where
  lack-named : (node b c : ℕ) → LackIn s xs node b c → IsNamedIn xs node c
  lack-named node b c (inl h) = let m = h.1 in record { name = m.other; there = by m m.together; at = m.other_at; is = m.other_is }
    where
      by : (m : MeetIn s xs node b c) → Over xs m.one m.other ⊎ Over xs m.other m.one → Has xs m.other
      by m (inl o) = (before-has xs m.one m.other o.0).1
      by m (inr o) = (before-has xs m.other m.one o.0).0
  lack-named node b c (inr h) = let m = h.1 in record { name = m.name; there = m.there; at = m.at; is = m.is }

  pub none-start : NoneBelow s xs (record { node = 0; buffer = 0 })
  none-start = record { none = λ node b c h f. never node c (first-true node c 0 0 f) }
    where
      never : (node c : ℕ) → Ahead node c 0 0 → ⊥
      never node c (inl l) = absurd (omega (arith, l))
      never node c (inr p) = let l = p.1 in absurd (omega (arith, l))

  module _ (from : Bound) (clear : NoneBelow s xs from) where
    -- the name of a later buffer that lacks room isn't below the bound
    not_below : (node b c : ℕ) → LackIn s xs node b c → (i : IsNamedIn xs node c) → is_below i.name from ≡ false
    not_below node b c h i = by (is_below i.name from) refl
      where
        by : (v : Bool) → is_below i.name from ≡ v → v ≡ false
        by true e = absurd (clear.none node b c h (sym (ap₂ (λ n k. comes_first n k from.node from.buffer) i.at i.is) ∙ e))
        by false e = refl

    -- it is the next name, or stands behind it
    behind_next : (l : Named) → next from None xs ≡ Some l → (node b c : ℕ) → LackIn s xs node b c → comes_first node c l.node l.buffer ≡ false
    behind_next l e node b c h =
        let i = lack-named node b c h in
        let n = subst (IsNextOf from (Has xs)) e (next-of from xs) in
        sym (ap₂ (λ m k. comes_first m k l.node l.buffer) i.at i.is) ∙ n.2 i.name i.there (not_below node b c h i)

    next-there : (l : Named) → next from None xs ≡ Some l → Has xs l
    next-there l e = (subst (IsNextOf from (Has xs)) e (next-of from xs)).0

    pub next-from-bound : (l : Named) → next from None xs ≡ Some l → NotAhead l.node l.buffer from.node from.buffer
    next-from-bound l e = first-false l.node l.buffer from.node from.buffer (subst (IsNextOf from (Has xs)) e (next-of from xs)).1

    pub none-first : next from None xs ≡ None → IsFirstIn s xs None
    none-first e node b c h =
        let i = lack-named node b c h in
        let n = subst (IsNextOf from (Has xs)) e (next-of from xs) in
        wrong (is_below i.name from) (n i.name i.there) (not_below node b c h i)

    abbrev IsFirstPair : (l : Named) (earlier : ℕ) → Type 0
    IsFirstPair l earlier = (n b c : ℕ) → LackIn s xs n b c → (l.node < n) ⊎ ((l.node ≡ n) × ((l.buffer < c) ⊎ ((l.buffer ≡ c) × (earlier ≤ b))))

    pub first-is : (l : Named) (earlier : ℕ) → next from None xs ≡ Some l → earliest s xs l ≡ Some earlier
        → IsFirstIn s xs (Some (record { node = l.node; earlier = earlier; later = l.buffer }))
    first-is l earlier e f = (least.0, first)
      where
        least : LackIn s xs l.node earlier l.buffer × ((b : ℕ) → LackIn s xs l.node b l.buffer → earlier ≤ b)
        least = subst (LeastOf (λ b. LackIn s xs l.node b l.buffer)) f (earliest-is s l xs (next-there l e))

        first : IsFirstPair l earlier
        first n b c h = by (first-false n c l.node l.buffer (behind_next l e n b c h))
          where
            by : NotAhead n c l.node l.buffer → (l.node < n) ⊎ ((l.node ≡ n) × ((l.buffer < c) ⊎ ((l.buffer ≡ c) × (earlier ≤ b))))
            by (inl k) = inl k
            by (inr p) = inr (sym p.0, more (cases_lt l.buffer c))
              where
                more : (l.buffer < c) ⊎ (c ≤ l.buffer) → (l.buffer < c) ⊎ ((l.buffer ≡ c) × (earlier ≤ b))
                more (inl k) = inl k
                more (inr k) =
                    let q = p.1 in
                    let same : c ≡ l.buffer = omega (arith, k, q) in
                    let here = subst (λ m. LackIn s xs m b l.buffer) p.0 (subst (λ m. LackIn s xs n b m) same h) in
                    inr (sym same, least.1 b here)

    pub none-more : (l : Named) → next from None xs ≡ Some l → earliest s xs l ≡ None → NoneBelow s xs (record { node = l.node; buffer = l.buffer + 1 })
    none-more l e f = record { none = λ node b c h g. by node b c h (first-true node c l.node (l.buffer + 1) g) (first-false node c l.node l.buffer (behind_next l e node b c h)) }
      where
        none : (b : ℕ) → LackIn s xs l.node b l.buffer → ⊥
        none = subst (LeastOf (λ b. LackIn s xs l.node b l.buffer)) f (earliest-is s l xs (next-there l e))

        by : (node b c : ℕ) → LackIn s xs node b c → Ahead node c l.node (l.buffer + 1) → NotAhead node c l.node l.buffer → ⊥
        by node b c h (inl k) (inl m) = absurd (omega (arith, k, m))
        by node b c h (inl k) (inr p) = let q = p.0 in absurd (omega (arith, k, q))
        by node b c h (inr r) (inl m) = let q = r.0 in absurd (omega (arith, q, m))
        by node b c h (inr r) (inr p) =
            let k = r.1 in
            let m = p.1 in
            let same : c ≡ l.buffer = omega (arith, k, m) in
            none b (subst (λ z. LackIn s xs z b l.buffer) p.0 (subst (λ z. LackIn s xs node b z) same h))

-- a bound that rises has less above it
pub bound-rises : (n b m c k d : ℕ) → NotAhead m c n b → k ≡ m → d ≡ c + 1 → k < 2 ^ 32 → d < 2 ^ 64
    → (4294967296 - k) * 18446744073709551617 + (18446744073709551616 - d) < (4294967296 - n) * 18446744073709551617 + (18446744073709551616 - b)
bound-rises n b m c k d (inl l) e f p q = omega (arith, l, e, f, p, q)
bound-rises n b m c k d (inr h) e f p q =
    let u = h.0 in
    let v = h.1 in
    omega (arith, u, v, e, f, p, q)

-- ---- plans

pub first-of : (p : Plan) (found : Option Lack) → is_flat p.draft.term ≡ true → IsFirstIn (setting_of p) (plan_names p) found → IsFirstOf p found
first-of p found flat h = by found (subst (λ xs. IsFirstIn (setting_of p) xs found) (plan-names p flat) h)
  where
    by : (o : Option Lack) → IsFirstIn (setting_of p) (names 0 (whole_of p)) o → IsFirstOf p o
    by None g = λ node b c l. g node b c (lack-in (setting_of p) 0 (whole_of p) node b c l)
    by (Some l) g =
        record {
          lack = lack-from (setting_of p) 0 (whole_of p) l.node l.earlier l.later g.0;
          first = λ n b c k. g.1 n b c (lack-in (setting_of p) 0 (whole_of p) n b c k);
        }
