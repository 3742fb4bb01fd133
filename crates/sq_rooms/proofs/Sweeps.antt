-- What a sweep that marks nothing says.
use Rattle.std.proofs.Common.{◌≡◌, ℕ, zero, suc, ◌+◌, ◌*◌, ◌<◌, ◌≤◌, ◌⊎◌, inl, inr, Bool, true, false, List, [], ◌∷◌, length, map, slice_get, Some, refl, sym, ap, ap₂, subst, ◌∙◌, arith}
use Rattle.std.specs.Prelude.{if◌then◌else◌, nat_lt, min}
use Rattle.std.proofs.lemmas.Bool.{lt-ltb, and_from, or_parts}
use Rattle.sq_ir.specs.Written.{Setting}
use Rattle.sq_ir.specs.Plans.{HasByte}
use Rattle.sq_plan_check.specs.Sweep.{AreMarked}
use Rattle.sq_rooms.specs.declared.named.Named.{Named}
use Rattle.sq_rooms.specs.declared.bound.Bound.{Bound}
use Rattle.sq_rooms.specs.Names.{Has, Before, Over, MeetIn, LackIn}
use Rattle.sq_rooms.specs.Room.{passes}
use Rattle.sq_rooms.specs.Bounds.{comes_first, is_below, NoneBelow}
use Rattle.sq_rooms.specs.Reaches.{reach_of, reaches_of, row_of, any, passes_below}
use Rattle.sq_rooms.proofs.Shares.{wrong, true-past, Ahead, first-true, true-first}

-- ---- places in lists

pub record IsAtPlace (xs : List Named) (x : Named) : Type 0 where
  pub place : ℕ
  pub is : slice_get xs place ≡ Some x

has-place : (xs : List Named) (x : Named) → Has xs x → IsAtPlace xs x
has-place [] x h = absurd h
has-place (y ∷ ys) x (inl e) = record { place = 0; is = ap Some e }
has-place (y ∷ ys) x (inr h) = let p = has-place ys x h in record { place = suc p.place; is = p.is }

pub record AreAtPlaces (xs : List Named) (x y : Named) : Type 0 where
  pub one : ℕ
  pub other : ℕ
  pub less : one < other
  pub one_is : slice_get xs one ≡ Some x
  pub other_is : slice_get xs other ≡ Some y

before-places : (xs : List Named) (x y : Named) → Before xs x y → AreAtPlaces xs x y
before-places [] x y h = absurd h
before-places (z ∷ zs) x y (inl h) = let p = has-place zs y h.1 in record { one = 0; other = suc p.place; less = omega arith; one_is = ap Some h.0; other_is = p.is }
before-places (z ∷ zs) x y (inr h) =
    let p = before-places zs x y h in
    let l = p.less in
    record { one = suc p.one; other = suc p.other; less = omega (arith, l); one_is = p.one_is; other_is = p.other_is }

get-map : {X Y : Type 0} (f : X → Y) (xs : List X) (i : ℕ) (x : X) → slice_get xs i ≡ Some x → slice_get (map f xs) i ≡ Some (f x)
get-map f [] i x h = cc
get-map f (y ∷ xs) zero x h = let e : y ≡ x = cc in ap (λ z. Some (f z)) e
get-map f (y ∷ xs) (suc i) x h = get-map f xs i x h

inside : {X : Type 0} (xs : List X) (i : ℕ) (x : X) → slice_get xs i ≡ Some x → i < length xs
inside [] i x h = cc
inside (y ∷ xs) zero x h = omega arith
inside (y ∷ xs) (suc i) x h = let l = inside xs i x h in omega (arith, l)

unmarked : (marks : List Bool) (i : ℕ) → any marks ≡ false → i < length marks → slice_get marks i ≡ Some false
unmarked [] i h l = absurd (omega arith)
unmarked (v ∷ marks) zero h l = ap Some (or_parts v (any marks) h).0
unmarked (v ∷ marks) (suc i) h l = unmarked marks i (or_parts v (any marks) h).1 (omega arith)

none-any : (f : Named → Bool) (xs : List Named) (x : Named) → any (map f xs) ≡ false → Has xs x → f x ≡ false
none-any f [] x h k = absurd k
none-any f (y ∷ xs) x h (inl e) = ap f (sym e) ∙ (or_parts (f y) (any (map f xs)) h).0
none-any f (y ∷ xs) x h (inr k) = none-any f xs x (or_parts (f y) (any (map f xs)) h).1 k

-- ---- keys

-- a byte's key is among those from the first byte's up to the one behind the last byte's
key-in : (base a z k m m1 : ℕ) → m1 ≡ m + 1 → a ≤ k → k < a + z → (base + min a m ≤ base + min k m) × (base + min k m < base + min (min a m + min z m1) m1)
key-in base a z k m m1 e p q = (omega (arith, p), omega (arith, e, p, q))

module _ (s : Setting) (x : Named) (byte : ℕ) (h : HasByte s x.buffer byte) where
  abbrev key : ℕ
  key = x.node * 4294967296 + min byte 4294967294

  key-reached : ((reach_of s x).lo ≤ key) × (key < (reach_of s x).hi)
  key-reached = key-in (x.node * 4294967296) (s.offset x.buffer) (s.size x.buffer) byte 4294967294 4294967295 refl h.from h.below

  reached : (bound : Bound) → is_below x bound ≡ true → slice_get (reaches_of s bound x) 0 ≡ Some (reach_of s x)
  reached bound below =
      let p = h.from in
      let q = h.below in
      let e = and_from (is_below x bound) (nat_lt 0 (s.size x.buffer)) below (lt-ltb 0 (s.size x.buffer) (omega (arith, p, q))) in
      ap (λ v. slice_get (if v then reach_of s x ∷ [] else []) 0) e

-- ---- nothing marked

module _ (s : Setting) (xs : List Named) (bound : Bound) (marks : List Bool) (marked : AreMarked (map (row_of s bound) xs) marks) (clear : any marks ≡ false) where
  -- names below the bound, of two buffers that share a byte at one node
  pub record MayMeet (x y : Named) : Type 0 where
    pub over : Over xs x y
    pub below_x : is_below x bound ≡ true
    pub below_y : is_below y bound ≡ true
    pub same : y.node ≡ x.node
    pub differ : y.buffer ≡ x.buffer → ⊥
    pub byte : ℕ
    pub of_x : HasByte s x.buffer byte
    pub of_y : HasByte s y.buffer byte

  none_over : (x y : Named) → MayMeet x y → ⊥
  none_over x y m =
      let p = before-places xs x y m.over.0 in
      let one = get-map (row_of s bound) xs p.one x p.one_is in
      let other = get-map (row_of s bound) xs p.other y p.other_is in
      let all = marked.all in
      let i = inside (map (row_of s bound) xs) p.other (row_of s bound y) other in
      let c = marked.clear p.one p.other (row_of s bound x) (row_of s bound y) p.less one other (unmarked marks p.other clear (omega (arith, all, i))) in
      let kx = key-reached s x m.byte m.of_x in
      let ky = key-reached s y m.byte m.of_y in
      let e : key s y m.byte m.of_y ≡ key s x m.byte m.of_x = ap (λ n. n * 4294967296 + min m.byte 4294967294) m.same in
      let lo = subst (λ k. (reach_of s y).lo ≤ k) e ky.0 in
      let hi = subst (λ k. k < (reach_of s y).hi) e ky.1 in
      let o = c.ordered 0 0 (reach_of s x) (reach_of s y) (key s x m.byte m.of_x) (reached s x m.byte m.of_x bound m.below_x) (reached s y m.byte m.of_y bound m.below_y) kx.0 kx.1 lo hi m.differ in
      let l = m.over.1 in
      absurd (omega (arith, o, l))

-- a name with the node and buffer of one that comes first, or an earlier buffer
below_by : (x : Named) (node b c : ℕ) (bound : Bound) → x.node ≡ node → x.buffer ≡ b → b ≤ c → comes_first node c bound.node bound.buffer ≡ true → is_below x bound ≡ true
below_by x node b c bound p q l h = true-first x.node x.buffer bound.node bound.buffer (by (first-true node c bound.node bound.buffer h))
  where
    by : Ahead node c bound.node bound.buffer → Ahead x.node x.buffer bound.node bound.buffer
    by (inl k) = inl (omega (arith, p, k))
    by (inr k) = let e = k.0 in let r = k.1 in inr (omega (arith, p, e), omega (arith, q, l, r))

pub none_below : (s : Setting) (xs : List Named) (bound : Bound) (marks : List Bool) → any (map (passes_below s bound) xs) ≡ false
    → AreMarked (map (row_of s bound) xs) marks → any marks ≡ false → NoneBelow s xs bound
none_below s xs bound marks fit marked clear = record { none = none }
  where
    meet : (node b c : ℕ) → b < c → comes_first node c bound.node bound.buffer ≡ true → (m : MeetIn s xs node b c) → Over xs m.one m.other ⊎ Over xs m.other m.one → ⊥
    meet node b c l h m (inl o) =
        none_over s xs bound marks marked clear m.one m.other (record {
          over = o;
          below_x = below_by m.one node b c bound m.one_at m.one_is (omega (arith, l)) h;
          below_y = below_by m.other node c c bound m.other_at m.other_is (omega arith) h;
          same = m.other_at ∙ sym m.one_at;
          differ = λ e. let f : c ≡ b = sym m.other_is ∙ e ∙ m.one_is in absurd (omega (arith, l, f));
          byte = m.byte;
          of_x = subst (λ k. HasByte s k m.byte) (sym m.one_is) m.of_one;
          of_y = subst (λ k. HasByte s k m.byte) (sym m.other_is) m.of_other;
        })
    meet node b c l h m (inr o) =
        none_over s xs bound marks marked clear m.other m.one (record {
          over = o;
          below_x = below_by m.other node c c bound m.other_at m.other_is (omega arith) h;
          below_y = below_by m.one node b c bound m.one_at m.one_is (omega (arith, l)) h;
          same = m.one_at ∙ sym m.other_at;
          differ = λ e. let f : b ≡ c = sym m.one_is ∙ e ∙ m.other_is in absurd (omega (arith, l, f));
          byte = m.byte;
          of_x = subst (λ k. HasByte s k m.byte) (sym m.other_is) m.of_other;
          of_y = subst (λ k. HasByte s k m.byte) (sym m.one_is) m.of_one;
        })

    none : (node b c : ℕ) → LackIn s xs node b c → comes_first node c bound.node bound.buffer ≡ true → ⊥
    none node b c (inl l) h = meet node b c l.0 h l.1 l.1.together
    none node b c (inr l) h =
        let m = l.1 in
        let below = below_by m.name node c c bound m.at m.is (omega arith) h in
        let e : passes s m.name.node m.name.buffer ≡ passes s node c = ap₂ (passes s) m.at m.is in
        let past = e ∙ true-past (s.capacity node) (s.offset c) (s.size c) m.past in
        wrong (passes_below s bound m.name) (and_from (is_below m.name bound) (passes s m.name.node m.name.buffer) below past) (none-any (passes_below s bound) xs m.name fit m.there)
