-- How the hefts of parts are joined, and what they say of a tree.
use Rattle.std.proofs.Common.{◌≡◌, ℕ, ◌+◌, ◌-◌, ◌<◌, ◌≤◌, Bool, true, false, Option, Some, None, List, [], ◌∷◌, ◌++◌, refl, sym, ap, ap₂, ◌∙◌, arith}
use Rattle.std.specs.Prelude.{nat_lt, nat_eq, min, if◌then◌else◌}
use Rattle.std.proofs.lemmas.Bool.{ltb-true, ltb-false, lt-ltb, le-ltb, eqb-true}
use Rattle.sq_ir.specs.Tree.{Tree, Skip, Act, Stuck, Seq, Par, Within, is_done, seq, par, within}
use Rattle.sq_span.specs.declared.heft.Heft.{Heft}
use Rattle.sq_span.specs.Chains.{most_events}
use Rattle.sq_span.specs.Hefts.{most_weight, nothing, both, heft, known, is_lighter, picked}

-- ---- words

abbrev pub IsSmall : Option Heft → Type 0
IsSmall None = Unit {0}
IsSmall (Some x) = (x.events ≤ most_events) × (x.weight ≤ most_weight)

-- the weight of two parts
abbrev pub weight_of : Bool → ℕ → ℕ → ℕ
weight_of in_turn x y = if in_turn then min (x + y) most_weight else (if nat_lt x y then y else x)

greater : (x y : ℕ) (v : Bool) → nat_lt x y ≡ v → (if v then y else x) ≡ x + (y - x)
greater x y true e = let l = ltb-true x y e in omega (arith, l)
greater x y false e = let l = ltb-false x y e in omega (arith, l)

weight-small : (turn : Bool) (x y : ℕ) → x ≤ most_weight → y ≤ most_weight → weight_of turn x y ≤ most_weight
weight-small true x y h k = omega arith
weight-small false x y h k = let g = greater x y (nat_lt x y) refl in omega (arith, g, h, k)

weight-none : (turn : Bool) (y : ℕ) → y ≤ most_weight → weight_of turn 0 y ≡ y
weight-none true y h = omega (arith, h)
weight-none false y h = greater 0 y (nat_lt 0 y) refl ∙ omega arith

none-weight : (turn : Bool) (x : ℕ) → x ≤ most_weight → weight_of turn x 0 ≡ x
none-weight true x h = omega (arith, h)
none-weight false x h = greater x 0 (nat_lt x 0) refl ∙ omega arith

weight-again : (turn : Bool) (x y z : ℕ) → weight_of turn (weight_of turn x y) z ≡ weight_of turn x (weight_of turn y z)
weight-again true x y z = omega arith
weight-again false x y z =
    let a = greater x y (nat_lt x y) refl in
    let b = greater y z (nat_lt y z) refl in
    let u = weight_of false x y in
    let v = weight_of false y z in
    let c = greater u z (nat_lt u z) refl in
    let d = greater x v (nat_lt x v) refl in
    c ∙ omega (arith, a, b) ∙ sym d

-- ---- joined hefts

-- of these numbers
abbrev pub tested : (over : Bool) → Heft → Option Heft
tested over x = if over then None else Some x

tested-small : (over : Bool) (n w : ℕ) → nat_lt most_events n ≡ over → w ≤ most_weight → IsSmall (tested over (record { events = n; weight = w }))
tested-small true n w e h = tt
tested-small false n w e h = let l = ltb-false most_events n e in (omega (arith, l), h)

pub both-small : (turn : Bool) (x y : Option Heft) → IsSmall x → IsSmall y → IsSmall (both turn x y)
both-small turn None y h k = tt
both-small turn (Some x) None h k = tt
both-small turn (Some x) (Some y) h k = tested-small (nat_lt most_events (x.events + y.events)) (x.events + y.events) (weight_of turn x.weight y.weight) refl (weight-small turn x.weight y.weight h.1 k.1)

pub few : (n : ℕ) → n ≤ most_events → (x : Heft) → tested (nat_lt most_events n) x ≡ Some x
few n h x = ap (λ v. tested v x) (le-ltb most_events n h)

many : (n : ℕ) → most_events < n → (x : Heft) → tested (nat_lt most_events n) x ≡ None
many n h x = ap (λ v. tested v x) (lt-ltb most_events n h)

pub same-heft : (x : Heft) (n w : ℕ) → n ≡ x.events → w ≡ x.weight → Some (record { events = n; weight = w }) ≡ Some x
same-heft x n w e f = ap₂ (λ a b. Some (record { events = a; weight = b })) e f

pub nothing-first : (turn : Bool) (y : Option Heft) → IsSmall y → both turn (Some nothing) y ≡ y
nothing-first turn None h = refl
nothing-first turn (Some y) h = few (0 + y.events) (omega (arith, h.0)) _ ∙ same-heft y (0 + y.events) (weight_of turn 0 y.weight) (omega arith) (weight-none turn y.weight h.1)

pub nothing-last : (turn : Bool) (x : Option Heft) → IsSmall x → both turn x (Some nothing) ≡ x
nothing-last turn None h = refl
nothing-last turn (Some x) h = few (x.events + 0) (omega (arith, h.0)) _ ∙ same-heft x (x.events + 0) (weight_of turn x.weight 0) (omega arith) (none-weight turn x.weight h.1)

module _ (turn : Bool) (x y z : Heft) where
  abbrev left : Heft
  left = record { events = x.events + y.events; weight = weight_of turn x.weight y.weight }

  abbrev right : Heft
  right = record { events = y.events + z.events; weight = weight_of turn y.weight z.weight }

  three : (u v : Bool) → nat_lt most_events (x.events + y.events) ≡ u → nat_lt most_events (y.events + z.events) ≡ v
      → both turn (tested u left) (Some z) ≡ both turn (Some x) (tested v right)
  three true true e f = refl
  three true false e f =
      let l = ltb-true most_events (x.events + y.events) e in
      sym (many (x.events + (y.events + z.events)) (omega (arith, l)) _)
  three false true e f =
      let l = ltb-true most_events (y.events + z.events) f in
      many (x.events + y.events + z.events) (omega (arith, l)) _
  three false false e f =
      let n : x.events + y.events + z.events ≡ x.events + (y.events + z.events) = omega arith in
      ap₂ (λ n w. tested (nat_lt most_events n) (record { events = n; weight = w })) n (weight-again turn x.weight y.weight z.weight)

pub both-again : (turn : Bool) (x y z : Option Heft) → both turn (both turn x y) z ≡ both turn x (both turn y z)
both-again turn None y z = refl
both-again turn (Some x) None z = refl
both-again turn (Some x) (Some y) (Some z) = three turn x y z _ _ refl refl
both-again turn (Some x) (Some y) None = by (nat_lt most_events (x.events + y.events))
  where
    by : (v : Bool) → both turn (tested v (left turn x y y)) None ≡ None
    by true = refl
    by false = refl

two-done : (u v : Bool) → (if u then v else false) ≡ true → (u ≡ true) × (v ≡ true)
two-done true true h = (refl, refl)
two-done true false h = absurd (cc)
two-done false v h = absurd (cc)

-- what isn't done has an event
abbrev HasSome : Option Heft → Type 0
HasSome x = 0 < (known x).events

tested-some : (over : Bool) (n k : ℕ) → 0 < n → HasSome (tested over (record { events = n; weight = k }))
tested-some true n k h = omega arith
tested-some false n k h = h

first-some : (turn : Bool) (x y : Option Heft) → HasSome x → HasSome (both turn x y)
first-some turn None y h = omega arith
first-some turn (Some x) None h = omega arith
first-some turn (Some x) (Some y) h = tested-some (nat_lt most_events (x.events + y.events)) (x.events + y.events) (weight_of turn x.weight y.weight) (omega (arith, h))

second-some : (turn : Bool) (x y : Option Heft) → HasSome y → HasSome (both turn x y)
second-some turn None y h = omega arith
second-some turn (Some x) None h = omega arith
second-some turn (Some x) (Some y) h = tested-some (nat_lt most_events (x.events + y.events)) (x.events + y.events) (weight_of turn x.weight y.weight) (omega (arith, h))

either-some : (turn : Bool) (x y : Option Heft) (u v : Bool) → (u ≡ false → HasSome x) → (v ≡ false → HasSome y) → (if u then v else false) ≡ false
    → HasSome (both turn x y)
either-some turn x y false v f g h = first-some turn x y (f refl)
either-some turn x y true v f g h = second-some turn x y (g h)

append-none : {E : Type 0} (xs : List E) → xs ++ [] ≡ xs
append-none [] = refl
append-none (x ∷ xs) = ap (λ l. x ∷ l) (append-none xs)

-- the lighter of two parts, where one of them has no event
none-first : (x y : Heft) → x.events ≡ 0 → is_lighter x y ≡ true
none-first x y h = ap (λ n. if nat_eq n 0 then true else (if nat_eq y.events 0 then false else nat_lt x.weight y.weight)) h

pub some-events : (n : ℕ) → 0 < n → nat_eq n 0 ≡ false
some-events n h = by (nat_eq n 0) refl
  where
    by : (v : Bool) → nat_eq n 0 ≡ v → v ≡ false
    by true e = let z = eqb-true n 0 e in absurd (omega (arith, h, z))
    by false e = refl

none-second : (x y : Heft) → 0 < x.events → y.events ≡ 0 → is_lighter x y ≡ false
none-second x y h k =
    ap (λ v. if v then true else (if nat_eq y.events 0 then false else nat_lt x.weight y.weight)) (some-events x.events h)
    ∙ ap (λ n. if nat_eq n 0 then false else nat_lt x.weight y.weight) k

-- ---- hefts of trees

module _ {E S : Type 0} (w : E → ℕ) where
  pub heft-small : (t : Tree E S) → IsSmall (heft w t)
  heft-small Skip = (omega arith, omega arith)
  heft-small (Act e) = (omega arith, omega arith)
  heft-small (Stuck e) = (omega arith, omega arith)
  heft-small (Seq a b) = both-small true (heft w a) (heft w b) (heft-small a) (heft-small b)
  heft-small (Par a b) = both-small false (heft w a) (heft w b) (heft-small a) (heft-small b)
  heft-small (Within s a) = heft-small a

  pub heft-done : (t : Tree E S) → is_done t ≡ true → heft w t ≡ Some nothing
  heft-done Skip h = refl
  heft-done (Act e) h = absurd (cc)
  heft-done (Stuck e) h = absurd (cc)
  heft-done (Seq a b) h = let d = two-done (is_done a) (is_done b) h in ap₂ (both true) (heft-done a d.0) (heft-done b d.1)
  heft-done (Par a b) h = let d = two-done (is_done a) (is_done b) h in ap₂ (both false) (heft-done a d.0) (heft-done b d.1)
  heft-done (Within s a) h = heft-done a h

  pub picked-done : (t : Tree E S) → is_done t ≡ true → picked w t ≡ []
  picked-done Skip h = refl
  picked-done (Act e) h = absurd (cc)
  picked-done (Stuck e) h = absurd (cc)
  picked-done (Seq a b) h = let d = two-done (is_done a) (is_done b) h in ap₂ (λ x y. x ++ y) (picked-done a d.0) (picked-done b d.1)
  picked-done (Par a b) h = let d = two-done (is_done a) (is_done b) h in by (is_lighter (known (heft w a)) (known (heft w b))) (picked-done a d.0) (picked-done b d.1)
    where
      by : (v : Bool) → picked w a ≡ [] → picked w b ≡ [] → (if v then picked w b else picked w a) ≡ []
      by true x y = y
      by false x y = x
  picked-done (Within s a) h = picked-done a h

  pub heft-some : (t : Tree E S) → is_done t ≡ false → HasSome (heft w t)
  heft-some Skip h = absurd (cc)
  heft-some (Act e) h = omega arith
  heft-some (Stuck e) h = omega arith
  heft-some (Seq a b) h = either-some true (heft w a) (heft w b) (is_done a) (is_done b) (heft-some a) (heft-some b) h
  heft-some (Par a b) h = either-some false (heft w a) (heft w b) (is_done a) (is_done b) (heft-some a) (heft-some b) h
  heft-some (Within s a) h = heft-some a h

  -- ---- what leaves out parts that are done

  pub heft-seq : (a b : Tree E S) → heft w (seq a b) ≡ both true (heft w a) (heft w b)
  heft-seq a b = by (is_done a) (is_done b) refl refl
    where
      by : (u v : Bool) → is_done a ≡ u → is_done b ≡ v → heft w (if u then b else (if v then a else Seq a b)) ≡ both true (heft w a) (heft w b)
      by true v d e = sym (ap (λ x. both true x (heft w b)) (heft-done a d) ∙ nothing-first true (heft w b) (heft-small b))
      by false true d e = sym (ap (both true (heft w a)) (heft-done b e) ∙ nothing-last true (heft w a) (heft-small a))
      by false false d e = refl

  pub heft-par : (a b : Tree E S) → heft w (par a b) ≡ both false (heft w a) (heft w b)
  heft-par a b = by (is_done a) (is_done b) refl refl
    where
      by : (u v : Bool) → is_done a ≡ u → is_done b ≡ v → heft w (if u then b else (if v then a else Par a b)) ≡ both false (heft w a) (heft w b)
      by true v d e = sym (ap (λ x. both false x (heft w b)) (heft-done a d) ∙ nothing-first false (heft w b) (heft-small b))
      by false true d e = sym (ap (both false (heft w a)) (heft-done b e) ∙ nothing-last false (heft w a) (heft-small a))
      by false false d e = refl

  pub heft-within : (s : S) (a : Tree E S) → heft w (within s a) ≡ heft w a
  heft-within s a = by (is_done a) refl
    where
      by : (v : Bool) → is_done a ≡ v → heft w (if v then Skip else Within s a) ≡ heft w a
      by true d = sym (heft-done a d)
      by false d = refl

  pub picked-seq : (a b : Tree E S) → picked w (seq a b) ≡ picked w a ++ picked w b
  picked-seq a b = by (is_done a) (is_done b) refl refl
    where
      by : (u v : Bool) → is_done a ≡ u → is_done b ≡ v → picked w (if u then b else (if v then a else Seq a b)) ≡ picked w a ++ picked w b
      by true v d e = sym (ap (λ x. x ++ picked w b) (picked-done a d))
      by false true d e = sym (ap (λ x. picked w a ++ x) (picked-done b e) ∙ append-none (picked w a))
      by false false d e = refl

  pub picked-within : (s : S) (a : Tree E S) → picked w (within s a) ≡ picked w a
  picked-within s a = by (is_done a) refl
    where
      by : (v : Bool) → is_done a ≡ v → picked w (if v then Skip else Within s a) ≡ picked w a
      by true d = sym (picked-done a d)
      by false d = refl

  pub picked-par : (a b : Tree E S) → picked w (par a b) ≡ (if is_lighter (known (heft w a)) (known (heft w b)) then picked w b else picked w a)
  picked-par a b = by (is_done a) (is_done b) refl refl
    where
      by : (u v : Bool) → is_done a ≡ u → is_done b ≡ v
          → picked w (if u then b else (if v then a else Par a b)) ≡ (if is_lighter (known (heft w a)) (known (heft w b)) then picked w b else picked w a)
      by true v d e =
          let z = none-first (known (heft w a)) (known (heft w b)) (ap (λ x. (known x).events) (heft-done a d)) in
          sym (ap (λ v. if v then picked w b else picked w a) z)
      by false true d e =
          let z = none-second (known (heft w a)) (known (heft w b)) (heft-some a d) (ap (λ x. (known x).events) (heft-done b e)) in
          sym (ap (λ v. if v then picked w b else picked w a) z)
      by false false d e = refl
