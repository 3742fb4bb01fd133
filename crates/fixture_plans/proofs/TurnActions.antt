-- Which plans of turns are good.
use Rattle.std.proofs.Common.{◌≡◌, ◌≢◌, ℕ, zero, suc, ◌+◌, ◌*◌, ◌<◌, ◌≤◌, pos, Bool, true, false, ◌&&◌, List, [], ◌∷◌}
use Rattle.std.proofs.Common.{length, map, Some, slice_get, refl, sym, ap, ap₂, ◌∙◌, subst, ◌⊎◌, inl, inr, arith}
use Rattle.std.specs.Prelude.{nat_abs, nat_eq, nat_lt, nat_le, not}
use Rattle.std.specs.List.{All, Contains}
use Rattle.std.proofs.lemmas.Bool.{cases_lt}
use Rattle.std.proofs.lemmas.Bool.Decides.{nat_tests}
use Rattle.std.proofs.lemmas.List.Elements.{All-nil, All-cons, All-contains, All-weaker}
use Rattle.sq_num.specs.declared.Elem.TheVariants.{Byte, Int}
use Rattle.sq_rect.specs.declared.view.View.{View}
use Rattle.sq_ir.specs.declared.num.Num.TheVariants as n
use Rattle.sq_ir.specs.declared.term.LeafView.{LeafView}
use Rattle.sq_ir.specs.declared.term.Action.{Action}
use Rattle.sq_ir.specs.declared.plan.Leaf.{Leaf}
use Rattle.sq_ir.specs.Events.{Event, Copy, Fill, Leaves, in_row, is_among, places, ShareNothing}
use Rattle.sq_ir.specs.Events as events
use Rattle.sq_ir.specs.Written.{Setting, Env, at_root, at_turn, count_of, view_of, event_of}
use Rattle.sq_ir.specs.Plans.{IsCount, IsRow, IsView, AreDistinct, AreApart, MayBePerformed, IsAllowed, setting_of}
use Rattle.sq_ir.specs.Plans.{IsGood}
use Rattle.sq_ir.specs.Examples.{slot}
use Rattle.sq_ir.proofs.ExampleTrees.{spot, const_is}
use Rattle.fixture_plans.specs.Turns.{turns, fill, copy, square, product}
use Rattle.fixture_plans.proofs.Items.{first-part, second-part}
use Rattle.fixture_plans.proofs.LaneTerms.{const-count}
use Rattle.fixture_plans.proofs.TurnTerms.{turns-good}

-- ---- tests on places

-- the places rise, from lo on and below hi
abbrev rise : (lo hi : ℕ) → List ℕ → Bool
rise lo hi [] = true
rise lo hi (k ∷ ks) = nat_le lo k && (nat_lt k hi && rise (suc k) hi ks)

at-least : (lo k : ℕ) → nat_le lo k ≡ true → lo ≤ k
at-least lo k h = grind (arith, nat_tests)

less-than : (k hi : ℕ) → nat_lt k hi ≡ true → k < hi
less-than k hi h = grind (arith, nat_tests)

all-within : (lo hi : ℕ) (ks : List ℕ) → rise lo hi ks ≡ true → All (λ k. (lo ≤ k) × (k < hi)) ks
all-within lo hi [] h = All-nil (λ k. (lo ≤ k) × (k < hi))
all-within lo hi (k ∷ ks) h =
    let from = at-least lo k (first-part (nat_le lo k) (nat_lt k hi && rise (suc k) hi ks) h) in
    let rest = second-part (nat_le lo k) (nat_lt k hi && rise (suc k) hi ks) h in
    let below = less-than k hi (first-part (nat_lt k hi) (rise (suc k) hi ks) rest) in
    All-cons (λ x. (lo ≤ x) × (x < hi)) k ks (from, below)
    (All-weaker (λ x. (suc k ≤ x) × (x < hi)) (λ x. (lo ≤ x) × (x < hi))
    (λ x g. (let high = g.0 in omega (arith, high, from), g.1)) ks
    (all-within (suc k) hi ks (second-part (nat_lt k hi) (rise (suc k) hi ks) rest)))

all-distinct : (lo hi : ℕ) (ks : List ℕ) → rise lo hi ks ≡ true → AreDistinct ks
all-distinct lo hi [] h = tt
all-distinct lo hi (k ∷ ks) h =
    let rest = second-part (nat_lt k hi) (rise (suc k) hi ks)
    (second-part (nat_le lo k) (nat_lt k hi && rise (suc k) hi ks) h) in
    (λ c. again (all-within (suc k) hi ks rest) c, all-distinct (suc k) hi ks rest)
  where
    again : All (λ x. (suc k ≤ x) × (x < hi)) ks → Contains ks k → ⊥
    again g c = let less = All-contains (λ x. (suc k ≤ x) × (x < hi)) ks k g c in absurd (omega (arith, less.0))

-- ---- rows

module _ {C : Type 0} (leaves : Leaves C) (size : ℕ) (codes : List Leaf) (outer inner : ℕ) (few : size ≤ 1073741824)
    (many : outer < 9223372036854775808) (more : inner < 9223372036854775808) where
  -- the setting doesn't know of the action
  abbrev s : Setting
  s = setting_of (turns size codes outer inner (fill 0))

  module _ (i j : ℕ) where
    abbrev env : Env
    env = at_turn (at_turn at_root i) j

    row-at : (k len : ℕ) → k < 4294967296 → k + len ≤ size → IsRow s env (0 ∷ []) (slot 0 (n.Const (pos k))) len
    row-at k len h le = record {
      scope = (0, omega arith, refl);
      at = const-count s env k h;
      inside = subst
          (λ z. nat_abs z + len ≤ size) (sym (const_is s (pos k) env)) le;
    }

    fill-allowed : (count : ℕ) → count ≤ size → IsAllowed leaves s env (0 ∷ []) (fill count)
    fill-allowed count h =
        record {
          inside = row-at 0 (count * 1) (omega arith) (omega (arith, h));
          event = subst (λ z. (0 + nat_abs z) + count * 1 ≤ size) (sym (const_is s (pos 0) env)) (omega (arith, h));
        }

    rows-apart : (bytes : ℕ) → ShareNothing 0 0 bytes 0 bytes bytes
    rows-apart bytes a h = grind (arith, nat_tests)

    copied : (bytes : ℕ) → event_of s env (copy bytes) ≡ Copy (spot 0 0) (spot 0 bytes) bytes
    copied bytes =
        ap₂ (λ x y. Copy (spot 0 (0 + nat_abs x)) (spot 0 (0 + nat_abs y)) bytes) (const_is s (pos 0) env)
        (const_is s (pos bytes) env)
        ∙ ap (λ k. Copy (spot 0 0) (spot 0 k) bytes) (from_zero bytes)
      where
        from_zero : (k : ℕ) → 0 + k ≡ k
        from_zero k = omega arith

    copy-allowed : (bytes : ℕ) → bytes + bytes ≤ size → IsAllowed leaves s env (0 ∷ []) (copy bytes)
    copy-allowed bytes h =
        record {
          inside = (row-at 0 bytes (omega arith) (omega (arith, h)), row-at bytes bytes (omega (arith, h, few)) h);
          event = subst (MayBePerformed leaves s.capacity) (sym (copied bytes)) (omega (arith, h), h, rows-apart bytes);
        }

  pub filling-good : (count : ℕ) → count ≤ size → IsGood leaves (turns size codes outer inner (fill count))
  filling-good count h = turns-good leaves size codes outer inner (fill count) few many more
      (λ i j. fill-allowed i j count h)

  pub copying-good : (bytes : ℕ) → bytes + bytes ≤ size → IsGood leaves (turns size codes outer inner (copy bytes))
  copying-good bytes h = turns-good leaves size codes outer inner (copy bytes) few many more
      (λ i j. copy-allowed i j bytes h)

-- ---- the leaf on three arrays

abbrev placed : (at : ℕ) → View
placed at = record { at = at; elem = Int; extents = 4 ∷ 4 ∷ []; strides = 4 ∷ 1 ∷ [] }

abbrev three : List View
three = placed 0 ∷ placed 64 ∷ placed 128 ∷ []

module _ {C : Type 0} (leaves : Leaves C) (codes : List Leaf) (outer inner : ℕ) (many : outer < 9223372036854775808)
    (more : inner < 9223372036854775808) (takes : leaves.shapes 0 ≡ Some (map events.shape_of three)) where
  abbrev m : Setting
  m = setting_of (turns 192 codes outer inner product)

  within-view : (i : ℕ) (v : View) → slice_get three i ≡ Some v → All (λ k. (64 * i ≤ k) × (k < 64 * i + 64)) (places v)
  within-view zero v h = let e : placed 0 ≡ v
      = cc in subst (λ (x : View). All (λ k. (0 ≤ k) × (k < 64)) (places x)) e
      (all-within 0 64 (places (placed 0)) refl)
  within-view (suc zero) v h = let e : placed 64 ≡ v
      = cc in subst (λ (x : View). All (λ k. (64 ≤ k) × (k < 128)) (places x)) e
      (all-within 64 128 (places (placed 64)) refl)
  within-view (suc (suc zero)) v h = let e : placed 128 ≡ v
      = cc in subst (λ (x : View). All (λ k. (128 ≤ k) × (k < 192)) (places x)) e
      (all-within 128 192 (places (placed 128)) refl)
  within-view (suc (suc (suc i))) v h = cc

  distinct-view : (i : ℕ) (v : View) → slice_get three i ≡ Some v → AreDistinct (places v)
  distinct-view zero v h = let e : placed 0 ≡ v
      = cc in subst (λ (x : View). AreDistinct (places x)) e (all-distinct 0 64 (places (placed 0)) refl)
  distinct-view (suc zero) v h = let e : placed 64 ≡ v
      = cc in subst (λ (x : View). AreDistinct (places x)) e (all-distinct 64 128 (places (placed 64)) refl)
  distinct-view (suc (suc zero)) v h = let e : placed 128 ≡ v
      = cc in subst (λ (x : View). AreDistinct (places x)) e (all-distinct 128 192 (places (placed 128)) refl)
  distinct-view (suc (suc (suc i))) v h = cc

  views-apart : (i j : ℕ) (v u : View) (k : ℕ) → i ≢ j → slice_get three i ≡ Some v → slice_get three j ≡ Some u
      → Contains (places v) k → Contains (places u) k → ⊥
  views-apart i j v u k ne h g c d = by (cases_lt i j) (cases_lt j i)
    where
      one : (64 * i ≤ k) × (k < 64 * i + 64)
      one = All-contains (λ k. (64 * i ≤ k) × (k < 64 * i + 64)) (places v) k (within-view i v h) c

      other : (64 * j ≤ k) × (k < 64 * j + 64)
      other = All-contains (λ k. (64 * j ≤ k) × (k < 64 * j + 64)) (places u) k (within-view j u g) d

      by : ((i < j) ⊎ (j ≤ i)) → ((j < i) ⊎ (i ≤ j)) → ⊥
      by (inl p) q = let a = one.1 in let b = other.0 in absurd (omega (arith, p, a, b))
      by (inr p) (inl q) = let a = one.0 in let b = other.1 in absurd (omega (arith, q, a, b))
      by (inr p) (inr q) = ne (let e : i ≡ j = omega (arith, p, q) in e)

  each-view : (P : View → Type 0) → P (placed 0) → P (placed 64) → P (placed 128) → All P three
  each-view P a b c = All-cons P (placed 0) (placed 64 ∷ placed 128 ∷ []) a
      (All-cons P (placed 64) (placed 128 ∷ []) b (All-cons P (placed 128) [] c (All-nil P)))

  below : (at : ℕ) → rise at 192 (places (placed at)) ≡ true → All (λ k. k < 192) (places (placed at))
  below at h = All-weaker (λ k. (at ≤ k) × (k < 192)) (λ k. k < 192) (λ k g. g.1) (places (placed at))
      (all-within at 192 (places (placed at)) h)

  some : All (λ k. 0 < k) (4 ∷ 4 ∷ [])
  some = All-cons (λ k. 0 < k) 4 (4 ∷ []) (omega arith)
      (All-cons (λ k. 0 < k) 4 [] (omega arith) (All-nil (λ k. 0 < k)))

  may-call : MayBePerformed leaves m.capacity (events.Leaf 0 0 three [])
  may-call =
      record {
        shapes = takes;
        strides = each-view (λ (v : View). length v.strides ≡ length v.extents) refl refl refl;
        some = each-view (λ (v : View). All (λ k. 0 < k) v.extents) some some some;
        inside = each-view (λ (v : View). All (λ k. k < 192) (places v)) (below 0 refl) (below 64 refl)
            (below 128 refl);
        apart = record {
          once = λ i v w h. distinct-view i v h;
          apart
              = λ i j v u k ne w h g c d. views-apart i j v u k ne h g c d;
        };
        few = omega arith;
        near = each-view (λ (v : View). v.at < 4294967296) (omega arith) (omega arith) (omega arith);
        short = omega arith;
        words = All-nil (λ k. k < 4294967296);
      }

  module _ (i j : ℕ) where
    abbrev there : Env
    there = at_turn (at_turn at_root i) j

    view-is : (at : ℕ) → 0 + at ≡ at → view_of m there (square at) ≡ placed at
    view-is at h =
        ap (λ z. record { at = 0 + nat_abs z; elem = Int; extents = 4 ∷ 4 ∷ []; strides = 4 ∷ 1 ∷ [] })
        (const_is m (pos at) there) ∙ ap placed h

    called : event_of m there product ≡ events.Leaf 0 0 three []
    called =
        ap (λ v. events.Leaf 0 0 (v ∷ view_of m there (square 64) ∷ view_of m there (square 128) ∷ []) [])
        (view-is 0 refl)
        ∙ ap₂ (λ v w. events.Leaf 0 0 (placed 0 ∷ v ∷ w ∷ []) []) (view-is 64 refl) (view-is 128 refl)

    view-inside : (at : ℕ) → rise at 192 (places (placed at)) ≡ true → (v : View) → v ≡ placed at → (k : ℕ)
        → Contains (places v) k → (0 ≤ k) × (k < 0 + 192)
    view-inside at h v e k c =
        let low = All-contains (λ k. k < 192) (places (placed at)) k (below at h)
        (subst (λ x. Contains (places x) k) e c) in
        (omega arith, omega (arith, low))

    view-there : (at : ℕ) → at < 4294967296 → 0 + at ≡ at → rise at 192 (places (placed at)) ≡ true
        → IsView m there (0 ∷ []) (square at)
    view-there at few z h = record {
      scope = (0, omega arith, refl);
      at = const-count m there at few;
      level = refl;
      inside
          = view-inside at h (view_of m there (square at)) (view-is at z);
    }

    product-allowed : IsAllowed leaves m there (0 ∷ []) product
    product-allowed =
        record {
          inside = (
            All-cons (IsView m there (0 ∷ [])) (square 0) (square 64 ∷ square 128 ∷ [])
                (view-there 0 (omega arith) refl refl)
                (All-cons (IsView m there (0 ∷ [])) (square 64) (square 128 ∷ []) (view-there 64 (omega arith) refl refl)
                (All-cons (IsView m there (0 ∷ [])) (square 128) [] (view-there 128 (omega arith) refl refl)
                (All-nil (IsView m there (0 ∷ []))))),
            All-nil (IsCount m there),
          );
          event = subst (MayBePerformed leaves m.capacity) (sym called) may-call;
        }

  pub product-good : IsGood leaves (turns 192 codes outer inner product)
  product-good = turns-good leaves 192 codes outer inner product (omega arith) many more (λ i j. product-allowed i j)
