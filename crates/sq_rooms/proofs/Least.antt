-- The least buffer that lacks room with a later one.
use Rattle.std.proofs.Common.{◌≡◌, ℕ, ◌<◌, ◌≤◌, ◌⊎◌, inl, inr, Bool, true, false, ◌&&◌, Option, Some, None, List, [], ◌∷◌, refl, sym, ap, subst, ◌∙◌, arith}
use Rattle.std.specs.Prelude.{nat_lt, nat_eq, min, max, if◌then◌else◌}
use Rattle.std.proofs.lemmas.Bool.{ltb-true, lt-ltb, eqb-true, eq-eqb, and_parts, and_from, cases_lt}
use Rattle.sq_ir.specs.Written.{Setting}
use Rattle.sq_rooms.specs.declared.named.Named.{Named}
use Rattle.sq_rooms.specs.Names.{Has, Before, Over, MeetIn, LackIn}
use Rattle.sq_rooms.specs.Room.{shares, passes}
use Rattle.sq_rooms.specs.Rivals.{is_same, is_rival, lesser, lesser_if, end_with, behind, start, begins_in, before, or_itself, earliest}
use Rattle.sq_rooms.proofs.Shares.{wrong, shares-true, true-shares, past-true, true-past}

-- ---- the least number of which something holds

abbrev pub LeastOf : (ℕ → Type 0) → Option ℕ → Type 0
LeastOf P None = (b : ℕ) → P b → ⊥
LeastOf P (Some k) = P k × ((b : ℕ) → P b → k ≤ b)

least-same : (P Q : ℕ → Type 0) (best : Option ℕ) → ((b : ℕ) → P b → Q b) → ((b : ℕ) → Q b → P b) → LeastOf P best → LeastOf Q best
least-same P Q None f g h = λ b q. h b (g b q)
least-same P Q (Some k) f g h = (f k h.0, λ b q. h.1 b (g b q))

least-more : (P : ℕ → Type 0) (best : Option ℕ) (k : ℕ) → LeastOf P best → LeastOf (λ b. P b ⊎ (b ≡ k)) (lesser best k)
least-more P None k h = (inr refl, least)
  where
    least : (b : ℕ) → P b ⊎ (b ≡ k) → k ≤ b
    least b (inl p) = absurd (h b p)
    least b (inr e) = omega (arith, e)
least-more P (Some a) k h = (there (cases_lt k a), least)
  where
    there : (k < a) ⊎ (a ≤ k) → P (min a k) ⊎ (min a k ≡ k)
    there (inl l) = inr (omega (arith, l))
    there (inr l) = let e : a ≡ min a k = omega (arith, l) in inl (subst P e h.0)

    least : (b : ℕ) → P b ⊎ (b ≡ k) → min a k ≤ b
    least b (inl p) = let l = h.1 b p in omega (arith, l)
    least b (inr e) = omega (arith, e)

least-if : (P : ℕ → Type 0) (t : Bool) (best : Option ℕ) (k : ℕ) → LeastOf P best → LeastOf (λ b. P b ⊎ ((t ≡ true) × (b ≡ k))) (lesser_if t best k)
least-if P true best k h = least-same (λ b. P b ⊎ (b ≡ k)) (λ b. P b ⊎ ((true ≡ true) × (b ≡ k))) (lesser best k) there back (least-more P best k h)
  where
    there : (b : ℕ) → P b ⊎ (b ≡ k) → P b ⊎ ((true ≡ true) × (b ≡ k))
    there b (inl p) = inl p
    there b (inr e) = inr (refl, e)

    back : (b : ℕ) → P b ⊎ ((true ≡ true) × (b ≡ k)) → P b ⊎ (b ≡ k)
    back b (inl p) = inl p
    back b (inr e) = inr e.1
least-if P false best k h = least-same P (λ b. P b ⊎ ((false ≡ true) × (b ≡ k))) best (λ b p. inl p) back h
  where
    back : (b : ℕ) → P b ⊎ ((false ≡ true) × (b ≡ k)) → P b
    back b (inl p) = p
    back b (inr e) = absurd (wrong false e.0 refl)

-- ---- rivals, where they stand

-- a rival behind a name of the later buffer, and one before it
pub record RivalBehind (s : Setting) (l : Named) (xs : List Named) (b : ℕ) : Type 0 where
  pub later : Named
  pub rival : Named
  pub over : Over xs later rival
  pub same : is_same l later ≡ true
  pub rivals : is_rival s l rival ≡ true
  pub is : b ≡ rival.buffer

pub record RivalBefore (s : Setting) (l : Named) (xs : List Named) (b : ℕ) : Type 0 where
  pub later : Named
  pub rival : Named
  pub over : Over xs rival later
  pub same : is_same l later ≡ true
  pub rivals : is_rival s l rival ≡ true
  pub is : b ≡ rival.buffer

-- a rival that begins before this number
pub record RivalBelow (s : Setting) (l : Named) (end : ℕ) (xs : List Named) (b : ℕ) : Type 0 where
  pub rival : Named
  pub there : Has xs rival
  pub begins : rival.first < end
  pub rivals : is_rival s l rival ≡ true
  pub is : b ≡ rival.buffer

module _ (s : Setting) (l : Named) where
  abbrev BehindIn : (end : ℕ) → List Named → ℕ → Type 0
  BehindIn end [] b = ⊥
  BehindIn end (x ∷ xs) b = (((nat_lt x.first end && is_rival s l x) ≡ true) × (b ≡ x.buffer)) ⊎ BehindIn (end_with l end x) xs b

  behind-least : (P : ℕ → Type 0) (end : ℕ) (best : Option ℕ) (xs : List Named) → LeastOf P best → LeastOf (λ b. P b ⊎ BehindIn end xs b) (behind s l end best xs)
  behind-least P end best [] h = least-same P (λ b. P b ⊎ ⊥) best (λ b p. inl p) back h
    where
      back : (b : ℕ) → P b ⊎ ⊥ → P b
      back b (inl p) = p
      back b (inr e) = absurd e
  behind-least P end best (x ∷ xs) h =
      least-same (λ b. (P b ⊎ (((nat_lt x.first end && is_rival s l x) ≡ true) × (b ≡ x.buffer))) ⊎ BehindIn (end_with l end x) xs b) (λ b. P b ⊎ BehindIn end (x ∷ xs) b) (behind s l end best (x ∷ xs)) there back
      (behind-least (λ b. P b ⊎ (((nat_lt x.first end && is_rival s l x) ≡ true) × (b ≡ x.buffer))) (end_with l end x) (lesser_if (nat_lt x.first end && is_rival s l x) best x.buffer) xs
      (least-if P (nat_lt x.first end && is_rival s l x) best x.buffer h))
    where
      there : (b : ℕ) → (P b ⊎ (((nat_lt x.first end && is_rival s l x) ≡ true) × (b ≡ x.buffer))) ⊎ BehindIn (end_with l end x) xs b → P b ⊎ BehindIn end (x ∷ xs) b
      there b (inl (inl p)) = inl p
      there b (inl (inr e)) = inr (inl e)
      there b (inr r) = inr (inr r)

      back : (b : ℕ) → P b ⊎ BehindIn end (x ∷ xs) b → (P b ⊎ (((nat_lt x.first end && is_rival s l x) ≡ true) × (b ≡ x.buffer))) ⊎ BehindIn (end_with l end x) xs b
      back b (inl p) = inl (inl p)
      back b (inr (inl e)) = inl (inr e)
      back b (inr (inr r)) = inr r

  end-less : (end : ℕ) (x : Named) → end ≤ end_with l end x
  end-less end x = by (is_same l x)
    where
      by : (v : Bool) → end ≤ (if v then max end x.end else end)
      by true = omega arith
      by false = omega arith

  end-more : (end : ℕ) (x : Named) → is_same l x ≡ true → x.end ≤ end_with l end x
  end-more end x h = by (is_same l x) h
    where
      by : (v : Bool) → v ≡ true → x.end ≤ (if v then max end x.end else end)
      by true e = omega arith
      by false e = absurd (wrong false e refl)

  -- what begins before the greater end begins before one of both
  end-either : (end n : ℕ) (x : Named) → n < end_with l end x → (n < end) ⊎ ((is_same l x ≡ true) × (n < x.end))
  end-either end n x h = by (is_same l x) refl h
    where
      by : (v : Bool) → is_same l x ≡ v → n < (if v then max end x.end else end) → (n < end) ⊎ ((is_same l x ≡ true) × (n < x.end))
      by false e k = inl k
      by true e k = more (cases_lt n end)
        where
          more : (n < end) ⊎ (end ≤ n) → (n < end) ⊎ ((is_same l x ≡ true) × (n < x.end))
          more (inl p) = inl p
          more (inr p) = inr (e, omega (arith, k, p))

  behind-rival : (end : ℕ) (xs : List Named) (b : ℕ) → BehindIn end xs b → RivalBelow s l end xs b ⊎ RivalBehind s l xs b
  behind-rival end [] b h = absurd h
  behind-rival end (x ∷ xs) b (inl h) =
      let p = and_parts (nat_lt x.first end) (is_rival s l x) h.0 in
      inl (record { rival = x; there = inl refl; begins = ltb-true x.first end p.0; rivals = p.1; is = h.1 })
  behind-rival end (x ∷ xs) b (inr h) = by (behind-rival (end_with l end x) xs b h)
    where
      below : (r : RivalBelow s l (end_with l end x) xs b) → (r.rival.first < end) ⊎ ((is_same l x ≡ true) × (r.rival.first < x.end)) → RivalBelow s l end (x ∷ xs) b ⊎ RivalBehind s l (x ∷ xs) b
      below r (inl k) = inl (record { rival = r.rival; there = inr r.there; begins = k; rivals = r.rivals; is = r.is })
      below r (inr k) = inr (record { later = x; rival = r.rival; over = (inl (refl, r.there), k.1); same = k.0; rivals = r.rivals; is = r.is })

      by : RivalBelow s l (end_with l end x) xs b ⊎ RivalBehind s l xs b → RivalBelow s l end (x ∷ xs) b ⊎ RivalBehind s l (x ∷ xs) b
      by (inl r) = below r (end-either end r.rival.first x r.begins)
      by (inr r) = inr (record { later = r.later; rival = r.rival; over = (inr r.over.0, r.over.1); same = r.same; rivals = r.rivals; is = r.is })

  below-behind : (end : ℕ) (xs : List Named) (b : ℕ) (z : Named) → Has xs z → z.first < end → is_rival s l z ≡ true → b ≡ z.buffer → BehindIn end xs b
  below-behind end [] b z h k r e = absurd h
  below-behind end (x ∷ xs) b z (inl q) k r e =
      inl (and_from (nat_lt x.first end) (is_rival s l x) (lt-ltb x.first end (subst (λ (w : Named). w.first < end) (sym q) k)) (ap (is_rival s l) q ∙ r), e ∙ sym (ap (λ (w : Named). w.buffer) q))
  below-behind end (x ∷ xs) b z (inr h) k r e =
      let m = end-less end x in
      inr (below-behind (end_with l end x) xs b z h (omega (arith, k, m)) r e)

  rival-behind : (end : ℕ) (xs : List Named) (b : ℕ) (y z : Named) → Before xs y z → z.first < y.end → is_same l y ≡ true → is_rival s l z ≡ true → b ≡ z.buffer → BehindIn end xs b
  rival-behind end [] b y z h k w r e = absurd h
  rival-behind end (x ∷ xs) b y z (inl h) k w r e =
      let q = h.0 in
      let m = end-more end x (ap (is_same l) q ∙ w) in
      let f : x.end ≡ y.end = ap (λ (v : Named). v.end) q in
      inr (below-behind (end_with l end x) xs b z h.1 (omega (arith, k, m, f)) r e)
  rival-behind end (x ∷ xs) b y z (inr h) k w r e = inr (rival-behind (end_with l end x) xs b y z h k w r e)

  -- ---- before

  abbrev StartsIn : List Named → ℕ → Type 0
  StartsIn [] n = ⊥
  StartsIn (x ∷ xs) n = StartsIn xs n ⊎ ((is_same l x ≡ true) × (n ≡ x.first))

  start-least : (xs : List Named) → LeastOf (StartsIn xs) (start l xs)
  start-least [] = λ n h. h
  start-least (x ∷ xs) = least-if (StartsIn xs) (is_same l x) (start l xs) x.first (start-least xs)

  has-start : (xs : List Named) (y : Named) → Has xs y → is_same l y ≡ true → StartsIn xs y.first
  has-start [] y h w = absurd h
  has-start (x ∷ xs) y (inl e) w = inr (ap (is_same l) e ∙ w, sym (ap (λ (v : Named). v.first) e))
  has-start (x ∷ xs) y (inr h) w = inl (has-start xs y h w)

  pub record HasStart (xs : List Named) (n : ℕ) : Type 0 where
    pub later : Named
    pub there : Has xs later
    pub same : is_same l later ≡ true
    pub is : n ≡ later.first

  start-has : (xs : List Named) (n : ℕ) → StartsIn xs n → HasStart xs n
  start-has [] n h = absurd h
  start-has (x ∷ xs) n (inl h) = let r = start-has xs n h in record { later = r.later; there = inr r.there; same = r.same; is = r.is }
  start-has (x ∷ xs) n (inr h) = record { later = x; there = inl refl; same = h.0; is = h.1 }

  begins-has : (xs : List Named) (x : Named) (o : Option ℕ) → LeastOf (StartsIn xs) o → begins_in o x ≡ true → (n : ℕ) × HasStart xs n × (n < x.end)
  begins-has xs x None h e = absurd (wrong false e refl)
  begins-has xs x (Some n) h e = (n, start-has xs n h.0, ltb-true n x.end e)

  has-begins : (xs : List Named) (x : Named) (o : Option ℕ) (n : ℕ) → LeastOf (StartsIn xs) o → StartsIn xs n → n < x.end → begins_in o x ≡ true
  has-begins xs x None n h k m = absurd (h n k)
  has-begins xs x (Some a) n h k m = let p = h.1 n k in lt-ltb a x.end (omega (arith, p, m))

  abbrev BeforeIn : List Named → ℕ → Type 0
  BeforeIn [] b = ⊥
  BeforeIn (x ∷ xs) b = BeforeIn xs b ⊎ (((begins_in (start l xs) x && is_rival s l x) ≡ true) × (b ≡ x.buffer))

  before-least : (P : ℕ → Type 0) (best : Option ℕ) (xs : List Named) → LeastOf P best → LeastOf (λ b. P b ⊎ BeforeIn xs b) (before s l best xs)
  before-least P best [] h = least-same P (λ b. P b ⊎ ⊥) best (λ b p. inl p) back h
    where
      back : (b : ℕ) → P b ⊎ ⊥ → P b
      back b (inl p) = p
      back b (inr e) = absurd e
  before-least P best (x ∷ xs) h =
      least-same (λ b. (P b ⊎ BeforeIn xs b) ⊎ (((begins_in (start l xs) x && is_rival s l x) ≡ true) × (b ≡ x.buffer))) (λ b. P b ⊎ BeforeIn (x ∷ xs) b) (before s l best (x ∷ xs)) there back
      (least-if (λ b. P b ⊎ BeforeIn xs b) (begins_in (start l xs) x && is_rival s l x) (before s l best xs) x.buffer (before-least P best xs h))
    where
      there : (b : ℕ) → (P b ⊎ BeforeIn xs b) ⊎ (((begins_in (start l xs) x && is_rival s l x) ≡ true) × (b ≡ x.buffer)) → P b ⊎ BeforeIn (x ∷ xs) b
      there b (inl (inl p)) = inl p
      there b (inl (inr r)) = inr (inl r)
      there b (inr e) = inr (inr e)

      back : (b : ℕ) → P b ⊎ BeforeIn (x ∷ xs) b → (P b ⊎ BeforeIn xs b) ⊎ (((begins_in (start l xs) x && is_rival s l x) ≡ true) × (b ≡ x.buffer))
      back b (inl p) = inl (inl p)
      back b (inr (inl r)) = inl (inr r)
      back b (inr (inr e)) = inr e

  before-rival : (xs : List Named) (b : ℕ) → BeforeIn xs b → RivalBefore s l xs b
  before-rival [] b h = absurd h
  before-rival (x ∷ xs) b (inl h) = let r = before-rival xs b h in record { later = r.later; rival = r.rival; over = (inr r.over.0, r.over.1); same = r.same; rivals = r.rivals; is = r.is }
  before-rival (x ∷ xs) b (inr h) =
      let p = and_parts (begins_in (start l xs) x) (is_rival s l x) h.0 in
      let r = begins-has xs x (start l xs) (start-least xs) p.0 in
      let i = r.1.is in
      let k = r.2 in
      record { later = r.1.later; rival = x; over = (inl (refl, r.1.there), omega (arith, i, k)); same = r.1.same; rivals = p.1; is = h.1 }

  rival-before : (xs : List Named) (b : ℕ) (z y : Named) → Before xs z y → y.first < z.end → is_same l y ≡ true → is_rival s l z ≡ true → b ≡ z.buffer → BeforeIn xs b
  rival-before [] b z y h k w r e = absurd h
  rival-before (x ∷ xs) b z y (inl h) k w r e =
      let q = h.0 in
      let f : x.end ≡ z.end = ap (λ (v : Named). v.end) q in
      inr (and_from (begins_in (start l xs) x) (is_rival s l x) (has-begins xs x (start l xs) y.first (start-least xs) (has-start xs y h.1 w) (omega (arith, k, f))) (ap (is_rival s l) q ∙ r), e ∙ sym (ap (λ (v : Named). v.buffer) q))
  rival-before (x ∷ xs) b z y (inr h) k w r e = inl (rival-before xs b z y h k w r e)

  -- ---- meetings

  pub record IsSame (x : Named) : Type 0 where
    pub node : x.node ≡ l.node
    pub buffer : x.buffer ≡ l.buffer

  same-true : (x : Named) → is_same l x ≡ true → IsSame x
  same-true x h = let p = and_parts (nat_eq x.node l.node) (nat_eq x.buffer l.buffer) h in record { node = eqb-true x.node l.node p.0; buffer = eqb-true x.buffer l.buffer p.1 }

  true-same : (x : Named) → x.node ≡ l.node → x.buffer ≡ l.buffer → is_same l x ≡ true
  true-same x p q = and_from (nat_eq x.node l.node) (nat_eq x.buffer l.buffer) (eq-eqb x.node l.node p) (eq-eqb x.buffer l.buffer q)

  pub record IsRival (x : Named) : Type 0 where
    pub node : x.node ≡ l.node
    pub less : x.buffer < l.buffer
    pub shares : shares s x.buffer l.buffer ≡ true

  rival-true : (x : Named) → is_rival s l x ≡ true → IsRival x
  rival-true x h =
      let p = and_parts (nat_eq x.node l.node) (nat_lt x.buffer l.buffer && shares s x.buffer l.buffer) h in
      let q = and_parts (nat_lt x.buffer l.buffer) (shares s x.buffer l.buffer) p.1 in
      record { node = eqb-true x.node l.node p.0; less = ltb-true x.buffer l.buffer q.0; shares = q.1 }

  true-rival : (x : Named) → x.node ≡ l.node → x.buffer < l.buffer → shares s x.buffer l.buffer ≡ true → is_rival s l x ≡ true
  true-rival x p q r =
      and_from (nat_eq x.node l.node) (nat_lt x.buffer l.buffer && shares s x.buffer l.buffer) (eq-eqb x.node l.node p) (and_from (nat_lt x.buffer l.buffer) (shares s x.buffer l.buffer) (lt-ltb x.buffer l.buffer q) r)

  module _ (xs : List Named) where
    abbrev Meets : ℕ → Type 0
    Meets b = (b < l.buffer) × MeetIn s xs l.node b l.buffer

    meets : (b : ℕ) (rival later : Named) → Over xs rival later ⊎ Over xs later rival → is_same l later ≡ true → is_rival s l rival ≡ true → b ≡ rival.buffer → Meets b
    meets b rival later over w r e =
        let same = same-true later w in
        let it = rival-true rival r in
        let k = it.less in
        let share = shares-true s rival.buffer l.buffer it.shares in
        subst Meets (sym e) (
          k,
          record {
            one = rival;
            other = later;
            together = over;
            one_at = it.node;
            other_at = same.node;
            one_is = refl;
            other_is = same.buffer;
            byte = share.byte;
            of_one = share.of_one;
            of_other = share.of_other;
          },
        )

    found-meets : (b : ℕ) → (⊥ ⊎ BehindIn 0 xs b) ⊎ BeforeIn xs b → Meets b
    found-meets b (inl (inl e)) = absurd e
    found-meets b (inl (inr h)) = by (behind-rival 0 xs b h)
      where
        by : RivalBelow s l 0 xs b ⊎ RivalBehind s l xs b → Meets b
        by (inl r) = let k = r.begins in absurd (omega (arith, k))
        by (inr r) = meets b r.rival r.later (inr r.over) r.same r.rivals r.is
    found-meets b (inr h) = let r = before-rival xs b h in meets b r.rival r.later (inl r.over) r.same r.rivals r.is

    meets-found : (b : ℕ) → Meets b → (⊥ ⊎ BehindIn 0 xs b) ⊎ BeforeIn xs b
    meets-found b h = by h.1.together
      where
        m : MeetIn s xs l.node b l.buffer
        m = h.1

        same : is_same l m.other ≡ true
        same = true-same m.other m.other_at m.other_is

        rival : is_rival s l m.one ≡ true
        rival =
            let k = h.0 in
            let i = m.one_is in
            true-rival m.one m.one_at (omega (arith, k, i)) (ap (λ z. shares s z l.buffer) m.one_is ∙ true-shares s b l.buffer m.byte m.of_one m.of_other)

        by : Over xs m.one m.other ⊎ Over xs m.other m.one → (⊥ ⊎ BehindIn 0 xs b) ⊎ BeforeIn xs b
        by (inl o) = inr (rival-before xs b m.one m.other o.0 o.1 same rival (sym m.one_is))
        by (inr o) = inl (inr (rival-behind 0 xs b m.other m.one o.0 o.1 same rival (sym m.one_is)))

    meet-least : LeastOf Meets (before s l (behind s l 0 None xs) xs)
    meet-least =
        least-same (λ b. (⊥ ⊎ BehindIn 0 xs b) ⊎ BeforeIn xs b) Meets (before s l (behind s l 0 None xs) xs) found-meets meets-found (before-least (λ b. ⊥ ⊎ BehindIn 0 xs b) (behind s l 0 None xs) xs (behind-least (λ b. ⊥) 0 None xs (λ b e. e)))

    abbrev Lacks : ℕ → Type 0
    Lacks b = LackIn s xs l.node b l.buffer

    itself : Has xs l → (found : Option ℕ) → LeastOf Meets found → LeastOf Lacks (or_itself s l found)
    itself h (Some k) least = (inl least.0, by)
      where
        by : (b : ℕ) → Lacks b → k ≤ b
        by b (inl m) = least.1 b m
        by b (inr p) = let e = p.0 in let q = least.0.0 in omega (arith, e, q)
    itself h None none = by (passes s l.node l.buffer) refl
      where
        by : (v : Bool) → passes s l.node l.buffer ≡ v → LeastOf Lacks (if v then Some l.buffer else None)
        by true e = (inr (refl, record { name = l; there = h; at = refl; is = refl; past = past-true (s.capacity l.node) (s.offset l.buffer) (s.size l.buffer) e }), least)
          where
            least : (b : ℕ) → Lacks b → l.buffer ≤ b
            least b (inl m) = absurd (none b m)
            least b (inr p) = let f = p.0 in omega (arith, f)
        by false e = least
          where
            least : (b : ℕ) → Lacks b → ⊥
            least b (inl m) = none b m
            least b (inr p) = wrong (passes s l.node l.buffer) (true-past (s.capacity l.node) (s.offset l.buffer) (s.size l.buffer) p.1.past) e

    pub earliest-is : Has xs l → LeastOf Lacks (earliest s xs l)
    earliest-is h = itself h (before s l (behind s l 0 None xs) xs) meet-least
