-- What the tests of buffers and of names say.
use Rattle.std.proofs.Common.{◌≡◌, ℕ, ◌+◌, ◌-◌, ◌<◌, ◌≤◌, ◌⊎◌, inl, inr, Bool, true, false, ◌&&◌, refl, sym, ◌∙◌, arith}
use Rattle.std.specs.Prelude.{nat_lt, nat_le, nat_eq}
use Rattle.std.proofs.lemmas.Bool.{ltb-true, leb-true, eqb-true, lt-ltb, le-leb, eq-eqb, cases_lt, and_parts, and_from, or_cases, or_left, or_right}
use Rattle.sq_ir.specs.Written.{Setting}
use Rattle.sq_ir.specs.Plans.{HasByte}
use Rattle.sq_rooms.specs.Room.{is_in, shares, is_past}
use Rattle.sq_rooms.specs.Bounds.{comes_first}

pub wrong : (v : Bool) → v ≡ true → v ≡ false → ⊥
wrong v h k = let e : true ≡ false = sym h ∙ k in absurd (cc)

-- ---- bytes

in-true : (at from size : ℕ) → is_in at from size ≡ true → (from ≤ at) × (at < from + size)
in-true at from size h =
    let p = and_parts (nat_le from at) (nat_lt (at - from) size) h in
    let a = leb-true from at p.0 in
    let b = ltb-true (at - from) size p.1 in
    (a, omega (arith, a, b))

true-in : (at from size : ℕ) → from ≤ at → at < from + size → is_in at from size ≡ true
true-in at from size a b = and_from (nat_le from at) (nat_lt (at - from) size) (le-leb from at a) (lt-ltb (at - from) size (omega (arith, a, b)))

pub record Share (s : Setting) (b c : ℕ) : Type 0 where
  pub byte : ℕ
  pub of_one : HasByte s b byte
  pub of_other : HasByte s c byte

module _ (s : Setting) (b c : ℕ) where
  pub shares-true : shares s b c ≡ true → Share s b c
  shares-true h = by (or_cases (nat_lt 0 (s.size c) && is_in (s.offset c) (s.offset b) (s.size b)) (nat_lt 0 (s.size b) && is_in (s.offset b) (s.offset c) (s.size c)) h)
    where
      by : ((nat_lt 0 (s.size c) && is_in (s.offset c) (s.offset b) (s.size b)) ≡ true) ⊎ ((nat_lt 0 (s.size b) && is_in (s.offset b) (s.offset c) (s.size c)) ≡ true) → Share s b c
      by (inl e) =
          let p = and_parts (nat_lt 0 (s.size c)) (is_in (s.offset c) (s.offset b) (s.size b)) e in
          let some = ltb-true 0 (s.size c) p.0 in
          let i = in-true (s.offset c) (s.offset b) (s.size b) p.1 in
          record { byte = s.offset c; of_one = record { from = i.0; below = i.1 }; of_other = record { from = omega arith; below = omega (arith, some) } }
      by (inr e) =
          let p = and_parts (nat_lt 0 (s.size b)) (is_in (s.offset b) (s.offset c) (s.size c)) e in
          let some = ltb-true 0 (s.size b) p.0 in
          let i = in-true (s.offset b) (s.offset c) (s.size c) p.1 in
          record { byte = s.offset b; of_one = record { from = omega arith; below = omega (arith, some) }; of_other = record { from = i.0; below = i.1 } }

  pub true-shares : (k : ℕ) → HasByte s b k → HasByte s c k → shares s b c ≡ true
  true-shares k h g = by (cases_lt (s.offset c) (s.offset b))
    where
      hf : s.offset b ≤ k
      hf = h.from

      hb : k < s.offset b + s.size b
      hb = h.below

      gf : s.offset c ≤ k
      gf = g.from

      gb : k < s.offset c + s.size c
      gb = g.below

      by : (s.offset c < s.offset b) ⊎ (s.offset b ≤ s.offset c) → shares s b c ≡ true
      by (inl l) =
          or_right (nat_lt 0 (s.size c) && is_in (s.offset c) (s.offset b) (s.size b)) (nat_lt 0 (s.size b) && is_in (s.offset b) (s.offset c) (s.size c)) (and_from (nat_lt 0 (s.size b)) (is_in (s.offset b) (s.offset c) (s.size c)) (lt-ltb 0 (s.size b) (omega (arith, hf, hb))) (true-in (s.offset b) (s.offset c) (s.size c) (omega (arith, l)) (omega (arith, hf, gb))))
      by (inr l) =
          or_left (nat_lt 0 (s.size c) && is_in (s.offset c) (s.offset b) (s.size b)) (nat_lt 0 (s.size b) && is_in (s.offset b) (s.offset c) (s.size c)) (and_from (nat_lt 0 (s.size c)) (is_in (s.offset c) (s.offset b) (s.size b)) (lt-ltb 0 (s.size c) (omega (arith, gf, gb))) (true-in (s.offset c) (s.offset b) (s.size b) l (omega (arith, gf, hb))))

-- ---- capacities

pub past-true : (capacity from size : ℕ) → is_past capacity from size ≡ true → capacity < from + size
past-true capacity from size h = by (or_cases (nat_lt capacity from) (nat_lt (capacity - from) size) h)
  where
    by : (nat_lt capacity from ≡ true) ⊎ (nat_lt (capacity - from) size ≡ true) → capacity < from + size
    by (inl e) = let l = ltb-true capacity from e in omega (arith, l)
    by (inr e) = let l = ltb-true (capacity - from) size e in omega (arith, l)

pub true-past : (capacity from size : ℕ) → capacity < from + size → is_past capacity from size ≡ true
true-past capacity from size h = by (cases_lt capacity from)
  where
    by : (capacity < from) ⊎ (from ≤ capacity) → is_past capacity from size ≡ true
    by (inl l) = or_left (nat_lt capacity from) (nat_lt (capacity - from) size) (lt-ltb capacity from l)
    by (inr l) = or_right (nat_lt capacity from) (nat_lt (capacity - from) size) (lt-ltb (capacity - from) size (omega (arith, l, h)))

-- ---- the order of names

abbrev pub Ahead : (n b m c : ℕ) → Type 0
Ahead n b m c = (n < m) ⊎ ((n ≡ m) × (b < c))

abbrev pub NotAhead : (n b m c : ℕ) → Type 0
NotAhead n b m c = (m < n) ⊎ ((n ≡ m) × (c ≤ b))

module _ (n b m c : ℕ) where
  pub first-true : comes_first n b m c ≡ true → Ahead n b m c
  first-true h = by (or_cases (nat_lt n m) (nat_eq n m && nat_lt b c) h)
    where
      by : (nat_lt n m ≡ true) ⊎ ((nat_eq n m && nat_lt b c) ≡ true) → Ahead n b m c
      by (inl e) = inl (ltb-true n m e)
      by (inr e) = let p = and_parts (nat_eq n m) (nat_lt b c) e in inr (eqb-true n m p.0, ltb-true b c p.1)

  pub true-first : Ahead n b m c → comes_first n b m c ≡ true
  true-first (inl l) = or_left (nat_lt n m) (nat_eq n m && nat_lt b c) (lt-ltb n m l)
  true-first (inr h) = or_right (nat_lt n m) (nat_eq n m && nat_lt b c) (and_from (nat_eq n m) (nat_lt b c) (eq-eqb n m h.0) (lt-ltb b c h.1))

  pub first-false : comes_first n b m c ≡ false → NotAhead n b m c
  first-false h = by (cases_lt n m) (cases_lt m n) (cases_lt b c)
    where
      by : (n < m) ⊎ (m ≤ n) → (m < n) ⊎ (n ≤ m) → (b < c) ⊎ (c ≤ b) → NotAhead n b m c
      by (inl l) k q = absurd (wrong (comes_first n b m c) (true-first (inl l)) h)
      by (inr l) (inl k) q = inl k
      by (inr l) (inr k) (inl q) = absurd (wrong (comes_first n b m c) (true-first (inr (omega (arith, l, k), q))) h)
      by (inr l) (inr k) (inr q) = inr (omega (arith, l, k), q)

  pub false-first : (Ahead n b m c → ⊥) → comes_first n b m c ≡ false
  false-first never = by (comes_first n b m c) refl
    where
      by : (v : Bool) → comes_first n b m c ≡ v → v ≡ false
      by true e = absurd (never (first-true e))
      by false e = refl

pub ahead-none : (n b : ℕ) → Ahead n b n b → ⊥
ahead-none n b (inl l) = absurd (omega (arith, l))
ahead-none n b (inr h) = let l = h.1 in absurd (omega (arith, l))

pub ahead-both : (n b m c k d : ℕ) → Ahead n b m c → Ahead m c k d → Ahead n b k d
ahead-both n b m c k d (inl l) (inl r) = inl (omega (arith, l, r))
ahead-both n b m c k d (inl l) (inr r) = let e = r.0 in inl (omega (arith, l, e))
ahead-both n b m c k d (inr l) (inl r) = let e = l.0 in inl (omega (arith, e, r))
ahead-both n b m c k d (inr l) (inr r) =
    let e = l.0 in
    let f = r.0 in
    let p = l.1 in
    let q = r.1 in
    inr (omega (arith, e, f), omega (arith, p, q))
