-- How runs, touches and paths come to be reached, one reach at a time.
use Rattle.std.proofs.Common.{◌≡◌, ℕ, zero, suc, ◌+◌, ◌-◌, ◌*◌, ◌<◌, ◌≤◌, Option, Some, None, List, [], ◌∷◌, ◌++◌, length, slice_get, refl, sym, ap, ◌∙◌, subst, ◌⊎◌, inl, inr, arith}
use Rattle.std.specs.Prelude.{◌^◌}
use Rattle.std.proofs.Math.Nat.{mul-le-mul_right}
use Rattle.sq_areas.specs.Areas.{HasByte, reach_of}
use Rattle.sq_areas.specs.Alike.{span_of}
use Rattle.sq_areas.specs.declared.areas.Step.{Step}
use Rattle.sq_touches.specs.Acts.{IsNear, AreNear}
use Rattle.sq_touches.specs.declared.touch.Touch.{Touch}
use Rattle.sq_plan_check.specs.declared.reach.Reach.{Reach}
use Rattle.sq_clashes.specs.Colors.{color_of}
use Rattle.sq_clashes.specs.Keys.{node_key, path_key}
use Rattle.sq_clashes.specs.Reached.{IsReached, HaveMore, ReachRuns, ReachTouches, ReachPath}
use Rattle.sq_clashes.proofs.Items.{at_most_or, inside}

-- ---- one reach more

front : {X : Type 0} (xs ys : List X) (i : ℕ) (x : X) → slice_get xs i ≡ Some x → slice_get (xs ++ ys) i ≡ Some x
front [] ys i x h = cc
front (y ∷ xs) ys zero x h = h
front (y ∷ xs) ys (suc i) x h = front xs ys i x h

last : {X : Type 0} (xs : List X) (x : X) → slice_get (xs ++ x ∷ []) (length xs) ≡ Some x
last [] x = refl
last (y ∷ xs) x = last xs x

pub more_one : (old new : List Reach) (r : Reach) → new ≡ old ++ r ∷ [] → HaveMore old new
more_one old new r e =
    record {
      kept = λ key color h. record {
        number = h.number;
        reach = h.reach;
        is = subst (λ l. slice_get l h.number ≡ Some h.reach) (sym e) (front old (r ∷ []) h.number h.reach h.is);
        from = h.from;
        below = h.below;
        color_is = h.color_is;
      };
    }

pub reached_one : (old new : List Reach) (key end len color : ℕ) → end ≡ key + len → new ≡ old ++ record { lo = key; hi = end; color = color } ∷ [] → ReachRuns new key len [] color
reached_one old new key end len color is e =
    record {
      each = λ k h. record {
        number = length old;
        reach = record { lo = key; hi = end; color = color };
        is = subst (λ l. slice_get l (length old) ≡ Some (record { lo = key; hi = end; color = color })) (sym e) (last old (record { lo = key; hi = end; color = color }));
        from = h.0;
        below = let l = h.1 in omega (arith, l, is);
        color_is = refl;
      };
    }

pub more_none : (reaches : List Reach) → HaveMore reaches reaches
more_none reaches = record { kept = λ key color h. h }

pub more_both : (a b c : List Reach) → HaveMore a b → HaveMore b c → HaveMore a c
more_both a b c h k = record { kept = λ key color r. k.kept key color (h.kept key color r) }

pub still_runs : (a b : List Reach) (key run : ℕ) (steps : List Step) (color : ℕ) → HaveMore a b → ReachRuns a key run steps color → ReachRuns b key run steps color
still_runs a b key run steps color h r = record { each = λ k x. h.kept k color (r.each k x) }

pub still_touches : (a b : List Reach) (touches : List Touch) (own : ℕ) → HaveMore a b → ReachTouches a touches own → ReachTouches b touches own
still_touches a b touches own h r = record { each = λ n t at. still_runs a b (node_key t.node + t.area.at) t.area.run t.area.steps (color_of t.way own) h (r.each n t at) }

-- ---- ranges round all runs

-- the bytes of runs stand in their span
span_inside : (ds : List Step) (at run k : ℕ) → HasByte ds at run k → (at ≤ k) × (k < at + (span_of ds + run))
span_inside [] at run k h = (h.0, let l = h.1 in omega (arith, l))
span_inside (d ∷ ds) at run k h =
    let r = span_inside ds (at + h.0 * d.step) run k h.2 in
    let l = h.1 in
    let a : h.0 * d.step ≤ (d.count - 1) * d.step = mul-le-mul_right d.step (omega (arith, l)) in
    let p = r.0 in
    let q = r.1 in
    (omega (arith, p), omega (arith, q, a))

pub runs_spanned : (reaches : List Reach) (key run len : ℕ) (steps : List Step) (color : ℕ) → len ≡ span_of steps + run → ReachRuns reaches key len [] color → ReachRuns reaches key run steps color
runs_spanned reaches key run len steps color e h =
    record { each = λ k b. let s = span_inside steps key run k b in let q = s.1 in h.each k (s.0, omega (arith, q, e)) }

pub span_more : (count step : ℕ) → (count - 1) * step ≤ count * step
span_more count step = mul-le-mul_right step (omega arith)

pub turn_inside : (t count step : ℕ) → t < count → t * step ≤ count * step
turn_inside t count step l = mul-le-mul_right step (omega (arith, l))

-- the next turn begins behind
pub turn_room : (t : ℕ) (d : Step) (rest steps : List Step) (key run : ℕ) → steps ≡ d ∷ rest → t < d.count → key + reach_of steps run < 2 ^ 64 → key + t * d.step + reach_of rest run < 2 ^ 64
turn_room t d rest steps key run s l h =
    let a = turn_inside t d.count d.step l in
    let k : key + (d.count * d.step + reach_of rest run) < 2 ^ 64 = subst (λ z. key + reach_of z run < 2 ^ 64) s h in
    omega (arith, a, k)

-- ---- turn after turn

pub record TurnsReached (reaches : List Reach) (key run : ℕ) (d : Step) (rest : List Step) (color count : ℕ) : Type 0 where
  pub each : (t : ℕ) → t < count → ReachRuns reaches (key + t * d.step) run rest color

pub turns_none : (reaches : List Reach) (key run : ℕ) (d : Step) (rest : List Step) (color : ℕ) → TurnsReached reaches key run d rest color 0
turns_none reaches key run d rest color = record { each = λ t l. absurd (omega (arith, l)) }

pub turns_more : (a b : List Reach) (key run : ℕ) (d : Step) (rest : List Step) (color count begin : ℕ) → TurnsReached a key run d rest color count → HaveMore a b → begin ≡ key + count * d.step → ReachRuns b begin run rest color
    → TurnsReached b key run d rest color (count + 1)
turns_more a b key run d rest color count begin h m e r = record { each = λ t l. by t l (at_most_or count t) }
  where
    by : (t : ℕ) → t < count + 1 → (count ≤ t) ⊎ (t < count) → ReachRuns b (key + t * d.step) run rest color
    by t l (inr k) = still_runs a b (key + t * d.step) run rest color m (h.each t k)
    by t l (inl k) = let z : t ≡ count = omega (arith, k, l) in subst (λ x. ReachRuns b x run rest color) (e ∙ ap (λ u. key + u * d.step) (sym z)) r

pub runs_reached : (reaches : List Reach) (key run : ℕ) (d : Step) (rest steps : List Step) (color count : ℕ) → steps ≡ d ∷ rest → TurnsReached reaches key run d rest color count → d.count ≤ count → ReachRuns reaches key run steps color
runs_reached reaches key run d rest steps color count s h l =
    subst (λ z. ReachRuns reaches key run z color) (sym s) (record { each = λ k b. let t = b.1 in (h.each b.0 (omega (arith, t, l))).each k b.2 })

-- ---- touch after touch

pub record TouchesReached (reaches : List Reach) (touches : List Touch) (own count : ℕ) : Type 0 where
  pub each : (n : ℕ) (t : Touch) → n < count → slice_get touches n ≡ Some t → ReachRuns reaches (node_key t.node + t.area.at) t.area.run t.area.steps (color_of t.way own)

pub touches_none : (reaches : List Reach) (touches : List Touch) (own : ℕ) → TouchesReached reaches touches own 0
touches_none reaches touches own = record { each = λ n t l at. absurd (omega (arith, l)) }

pub touches_more : (a b : List Reach) (touches : List Touch) (own count : ℕ) (touch : Touch) → TouchesReached a touches own count → HaveMore a b → slice_get touches count ≡ Some touch
    → ReachRuns b (node_key touch.node + touch.area.at) touch.area.run touch.area.steps (color_of touch.way own) → TouchesReached b touches own (count + 1)
touches_more a b touches own count touch h m is r = record { each = λ n t l at. by n t at l (at_most_or count n) }
  where
    by : (n : ℕ) (t : Touch) → slice_get touches n ≡ Some t → n < count + 1 → (count ≤ n) ⊎ (n < count) → ReachRuns b (node_key t.node + t.area.at) t.area.run t.area.steps (color_of t.way own)
    by n t at l (inr k) = still_runs a b (node_key t.node + t.area.at) t.area.run t.area.steps (color_of t.way own) m (h.each n t k at)
    by n t at l (inl k) =
        let z : n ≡ count = omega (arith, k, l) in
        let same : Some touch ≡ Some t = sym is ∙ ap (slice_get touches) (sym z) ∙ at in
        let one : touch ≡ t = cc in
        subst (λ (x : Touch). ReachRuns b (node_key x.node + x.area.at) x.area.run x.area.steps (color_of x.way own)) one r

pub touches_all : (reaches : List Reach) (touches : List Touch) (own count : ℕ) → TouchesReached reaches touches own count → length touches ≤ count → ReachTouches reaches touches own
touches_all reaches touches own count h l = record { each = λ n t at. let i = inside touches n t at in h.each n t (omega (arith, i, l)) at }

pub near_at : (touches : List Touch) (n : ℕ) (t : Touch) → AreNear touches → slice_get touches n ≡ Some t → IsNear t
near_at [] n t h e = cc
near_at (x ∷ touches) zero t h e = let r : x ≡ t = cc in subst IsNear r h.0
near_at (x ∷ touches) (suc n) t h e = near_at touches n t h.1 e

-- ---- paths

pub path_none : (reaches : List Reach) (path : Option (List ℕ)) (own : ℕ) → path ≡ None → ReachPath reaches path own
path_none reaches path own e = record { each = λ p h. let z : None ≡ Some p = sym e ∙ h in cc }

pub path_some : (reaches : List Reach) (path : Option (List ℕ)) (p q : List ℕ) (key own : ℕ) → path ≡ Some p → q ≡ p → key ≡ path_key q → ReachRuns reaches key 1 [] own → ReachPath reaches path own
path_some reaches path p q key own e f k h =
    record {
      each = λ r s.
          let same : Some p ≡ Some r = sym e ∙ s in
          let one : p ≡ r = cc in
          subst (λ x. IsReached reaches x own) (k ∙ ap path_key (f ∙ one)) (h.each key (omega arith, omega arith));
    }
