-- The words of a tree are its number of events and what its chain weighs, where these are few and weigh little.
use Rattle.std.proofs.Common.{◌≡◌, ℕ, ◌+◌, ◌*◌, ◌-◌, ◌<◌, ◌≤◌, Bool, true, false, Option, Some, None, List, ◌++◌, refl, sym, ap, ap₂, ◌∙◌, subst, arith}
use Rattle.std.specs.Prelude.{nat_lt, nat_eq, min, if◌then◌else◌}
use Rattle.std.proofs.lemmas.Bool.{ltb-true, ltb-false}
use Rattle.std.proofs.Math.Nat.{add-mul}
use Rattle.sq_ir.specs.Tree.{Tree, Skip, Act, Stuck, Seq, Par, Within, is_done, IsNormal}
use Rattle.sq_ir.specs.Unordered.{AllEvents}
use Rattle.sq_span.specs.declared.heft.Heft.{Heft}
use Rattle.sq_span.specs.Chains.{weigh, chain, total, size, most_events}
use Rattle.sq_span.specs.Hefts.{most_weight, both, heft, known, is_lighter, picked}
use Rattle.sq_span.proofs.Heaviest.{weigh-append}
use Rattle.sq_span.proofs.Joining.{weight_of, tested, few, same-heft, some-events}

-- ---- how many events

abbrev Counts : Option Heft → ℕ → Type 0
Counts None n = most_events < n
Counts (Some x) n = (x.events ≡ n) × (n ≤ most_events)

tested-counts : (over : Bool) (n m w : ℕ) → n ≡ m → nat_lt most_events n ≡ over → Counts (tested over (record { events = n; weight = w })) m
tested-counts true n m w e h = let l = ltb-true most_events n h in omega (arith, l, e)
tested-counts false n m w e h = let l = ltb-false most_events n h in (e, omega (arith, l, e))

both-counts : (turn : Bool) (x y : Option Heft) (n m : ℕ) → Counts x n → Counts y m → Counts (both turn x y) (n + m)
both-counts turn None y n m h k = omega (arith, h)
both-counts turn (Some x) None n m h k = omega (arith, k)
both-counts turn (Some x) (Some y) n m h k =
    let a = h.0 in
    let b = k.0 in
    tested-counts (nat_lt most_events (x.events + y.events)) (x.events + y.events) (n + m) (weight_of turn x.weight y.weight) (omega (arith, a, b)) refl

two-live : (u v : Bool) (n m : ℕ) → (u ≡ false → 0 < n) → (if u then v else false) ≡ false → (v ≡ false → 0 < m) → 0 < n + m
two-live false v n m f h g = let z = f refl in omega (arith, z)
two-live true v n m f h g = let z = g h in omega (arith, z)

module _ {E S : Type 0} (w : E → ℕ) where
  counts : (t : Tree E S) → Counts (heft w t) (size t)
  counts Skip = (refl, omega arith)
  counts (Act e) = (refl, omega arith)
  counts (Stuck e) = (refl, omega arith)
  counts (Seq a b) = both-counts true (heft w a) (heft w b) (size a) (size b) (counts a) (counts b)
  counts (Par a b) = both-counts false (heft w a) (heft w b) (size a) (size b) (counts a) (counts b)
  counts (Within s a) = counts a

live-size : {E S : Type 0} (t : Tree E S) → is_done t ≡ false → 0 < size t
live-size Skip h = absurd (cc)
live-size (Act e) h = omega arith
live-size (Stuck e) h = omega arith
live-size (Seq a b) h = two-live (is_done a) (is_done b) (size a) (size b) (live-size a) h (live-size b)
live-size (Par a b) h = two-live (is_done a) (is_done b) (size a) (size b) (live-size a) h (live-size b)
live-size (Within s a) h = live-size a h

-- ---- what they weigh

times-most : (most n : ℕ) → n ≤ most_events → most_events * most ≤ most_weight → n * most ≤ most_weight
times-most most n h room =
    let e : n + (most_events - n) ≡ most_events = omega (arith, h) in
    let m = add-mul n (most_events - n) most in
    let f : (n + (most_events - n)) * most ≡ most_events * most = ap (λ k. k * most) e in
    omega (arith, m, f, room)

one-heft : (most k : ℕ) → k ≤ most → most_events * most ≤ most_weight → (x : Heft) → x ≡ record { events = 1; weight = k + 0 }
    → Some (record { events = 1; weight = min k most_weight }) ≡ Some x
one-heft most k h room x e =
    let z = times-most most 1 (omega arith) room in
    let a : 1 ≡ x.events = sym (ap (λ (y : Heft). y.events) e) in
    let b : min k most_weight ≡ x.weight = (omega (arith, h, z)) ∙ sym (ap (λ (y : Heft). y.weight) e) in
    same-heft x 1 (min k most_weight) a b

heavier : {E : Type 0} (w : E → ℕ) (v : Bool) (xs ys : List E) → (if v then weigh w ys else weigh w xs) ≡ weigh w (if v then ys else xs)
heavier w true xs ys = refl
heavier w false xs ys = refl

-- what is known of a tree of few events
pub record IsKnown {E S : Type 0} (w : E → ℕ) (t : Tree E S) : Type 0 where
  pub heft : heft w t ≡ Some (record { events = size t; weight = total w t })
  pub picked : picked w t ≡ chain w t

module _ {E S : Type 0} (w : E → ℕ) (most : ℕ) where
  total-most : (t : Tree E S) → AllEvents (λ e. w e ≤ most) t → total w t ≤ size t * most
  total-most Skip h = omega arith
  total-most (Act e) h = omega (arith, h)
  total-most (Stuck e) h = omega (arith, h)
  total-most (Seq a b) h =
      let x = total-most a h.0 in
      let y = total-most b h.1 in
      let z = weigh-append w (chain w a) (chain w b) in
      let m = add-mul (size a) (size b) most in
      omega (arith, x, y, z, m)
  total-most (Par a b) h = by (nat_lt (total w a) (total w b)) (total-most a h.0) (total-most b h.1)
    where
      by : (v : Bool) → total w a ≤ size a * most → total w b ≤ size b * most → weigh w (if v then chain w b else chain w a) ≤ (size a + size b) * most
      by true x y = let m = add-mul (size a) (size b) most in omega (arith, y, m)
      by false x y = let m = add-mul (size a) (size b) most in omega (arith, x, m)
  total-most (Within s a) h = total-most a h

  module _ (room : most_events * most ≤ most_weight) where
    par-picked : (a b : Tree E S) → is_done a ≡ false → is_done b ≡ false → IsKnown w a → IsKnown w b → picked w (Par a b) ≡ chain w (Par a b)
    par-picked a b da db h k =
        let x = some-events (size a) (live-size a da) in
        let y = some-events (size b) (live-size b db) in
        let l : is_lighter (known (heft w a)) (known (heft w b)) ≡ nat_lt (total w a) (total w b)
        = ap₂ (λ p q. is_lighter (known p) (known q)) h.heft k.heft
        ∙ ap (λ v. if v then true else (if nat_eq (size b) 0 then false else nat_lt (total w a) (total w b))) x
        ∙ ap (λ v. if v then false else nat_lt (total w a) (total w b)) y in
        ap (λ v. if v then picked w b else picked w a) l
        ∙ ap₂ (λ p q. if nat_lt (total w a) (total w b) then q else p) h.picked k.picked

    few-known : (t : Tree E S) → IsNormal t → AllEvents (λ e. w e ≤ most) t → size t ≤ most_events → IsKnown w t
    few-known Skip n h le = record { heft = refl; picked = refl }
    few-known (Act e) n h le = record { heft = one-heft most (w e) h room _ refl; picked = refl }
    few-known (Stuck e) n h le = record { heft = one-heft most (w e) h room _ refl; picked = refl }
    few-known (Seq a b) n h le =
        let x = few-known a n.0 h.0 (omega (arith, le)) in
        let y = few-known b n.1 h.1 (omega (arith, le)) in
        let z = weigh-append w (chain w a) (chain w b) in
        let m = total-most (Seq a b) h in
        let r = times-most most (size a + size b) le room in
        let f : min (total w a + total w b) most_weight ≡ total w (Seq a b) = omega (arith, z, m, r) in
        record {
          heft = ap₂ (both true) x.heft y.heft ∙ few (size a + size b) le _ ∙ ap (λ k. Some (record { events = size a + size b; weight = k })) f;
          picked = ap₂ (λ p q. p ++ q) x.picked y.picked;
        }
    few-known (Par a b) n h le =
        let x = few-known a n.0 h.0 (omega (arith, le)) in
        let y = few-known b n.1 h.1 (omega (arith, le)) in
        record {
          heft = ap₂ (both false) x.heft y.heft ∙ few (size a + size b) le _ ∙ ap (λ k. Some (record { events = size a + size b; weight = k })) (heavier w (nat_lt (total w a) (total w b)) (chain w a) (chain w b));
          picked = par-picked a b n.2 n.3 x y;
        }
    few-known (Within s a) n h le = let x = few-known a n.0 h le in record { heft = x.heft; picked = x.picked }

-- what the words of a tree say, where its events weigh little
pub record Says {E S : Type 0} (w : E → ℕ) (t : Tree E S) (x : Heft) : Type 0 where
  pub few : size t ≤ most_events
  pub events : x.events ≡ size t
  pub weight : x.weight ≡ total w t
  pub picked : picked w t ≡ chain w t

module _ {E S : Type 0} (w : E → ℕ) where
  pub too-many : (t : Tree E S) → None ≡ heft w t → most_events < size t
  too-many t e = subst (λ x. Counts x (size t)) (sym e) (counts w t)

  pub says : (most : ℕ) → most_events * most ≤ most_weight → (t : Tree E S) → IsNormal t → AllEvents (λ e. w e ≤ most) t → (x : Heft) → Some x ≡ heft w t → Says w t x
  says most room t n h x e =
      let c : Counts (Some x) (size t) = subst (λ x. Counts x (size t)) (sym e) (counts w t) in
      let k = few-known w most room t n h c.1 in
      let same : known (Some x) ≡ known (Some (record { events = size t; weight = total w t })) = ap known (e ∙ k.heft) in
      record {
        few = c.1;
        events = c.0;
        weight = ap (λ (y : Heft). y.weight) same;
        picked = k.picked;
      }
