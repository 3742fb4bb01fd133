-- Events whose rows are clear of one another don't depend on one another.
use Rattle.std.proofs.Common.{◌≡◌, ℕ, suc, ◌+◌, ◌*◌, ◌<◌, ◌≤◌, Bool, true, false, ◌&&◌, Option, Some, None, List, [], ◌∷◌, slice_get, refl, sym, ap, ◌∙◌, subst, ◌⊎◌, inl, inr, arith}
use Rattle.std.specs.Prelude.{nat_eq}
use Rattle.sq_areas.specs.Areas.{HasByte}
use Rattle.sq_areas.specs.declared.areas.Step.{Step}
use Rattle.sq_areas.proofs.Among.{same_number}
use Rattle.sq_check_laws.specs.Touches.{same_numbers}
use Rattle.sq_touches.specs.Acts.{Conflict, ConflictAny, ConflictAll, same_paths}
use Rattle.sq_touches.specs.declared.touch.Touch.{Touch}
use Rattle.sq_touches.specs.declared.act.Act.{Act}
use Rattle.sq_plan_check.specs.Sweep.{AreClear}
use Rattle.sq_plan_check.specs.Pairs.{AreReached}
use Rattle.sq_plan_check.specs.declared.entry.Entry.{Entry}
use Rattle.sq_plan_check.specs.declared.reach.Row.{Row}
use Rattle.sq_clashes.specs.Colors.{own_color, color_of}
use Rattle.sq_clashes.specs.Keys.{node_key, path_key}
use Rattle.sq_clashes.specs.Reached.{IsReached, IsRowOf, AreRows}
use Rattle.sq_clashes.proofs.Items.{inside, there}
use Rattle.sq_clashes.proofs.Coloring.{own_differ, colors_differ}

-- ---- two touches in conflict

any-found : (x : Touch) (ys : List Touch) → ConflictAny x ys → (n : ℕ) × (y : Touch) × (slice_get ys n ≡ Some y) × Conflict x y
any-found x [] h = absurd h
any-found x (y ∷ ys) (inl c) = (0, y, refl, c)
any-found x (y ∷ ys) (inr c) = let r = any-found x ys c in (suc r.0, r.1, r.2, r.3)

record Found (xs ys : List Touch) : Type 0 where
  first : ℕ
  second : ℕ
  x : Touch
  y : Touch
  x_is : slice_get xs first ≡ Some x
  y_is : slice_get ys second ≡ Some y
  conflict : Conflict x y

all-found : (xs ys : List Touch) → ConflictAll xs ys → Found xs ys
all-found [] ys h = absurd h
all-found (x ∷ xs) ys (inl c) = let r = any-found x ys c in record { first = 0; second = r.0; x = x; y = r.1; x_is = refl; y_is = r.2; conflict = r.3 }
all-found (x ∷ xs) ys (inr c) = let r = all-found xs ys c in record { first = suc r.first; second = r.second; x = r.x; y = r.y; x_is = r.x_is; y_is = r.y_is; conflict = r.conflict }

-- bytes by their keys
byte-moved : (ds : List Step) (base at run k : ℕ) → HasByte ds at run k → HasByte ds (base + at) run (base + k)
byte-moved [] base at run k h = let p = h.0 in let q = h.1 in (omega (arith, p), omega (arith, q))
byte-moved (d ∷ ds) base at run k h =
    let e : base + (at + h.0 * d.step) ≡ base + at + h.0 * d.step = omega arith in
    (h.0, h.1, subst (λ z. HasByte ds z run (base + k)) e (byte-moved ds base (at + h.0 * d.step) run k h.2))

-- ---- paths

and-both : (u v : Bool) → (u && v) ≡ true → (u ≡ true) × (v ≡ true)
and-both true v h = (refl, h)
and-both false v h = cc

numbers-same : (xs ys : List ℕ) → same_numbers xs ys ≡ true → xs ≡ ys
numbers-same [] [] h = refl
numbers-same [] (y ∷ ys) h = cc
numbers-same (x ∷ xs) [] h = cc
numbers-same (x ∷ xs) (y ∷ ys) h =
    let b = and-both (nat_eq x y) (same_numbers xs ys) h in
    ap (λ z. z ∷ xs) (same_number x y b.0) ∙ ap (λ z. y ∷ z) (numbers-same xs ys b.1)

one-path : (p q : Option (List ℕ)) → same_paths p q ≡ true → (k : List ℕ) × (p ≡ Some k) × (q ≡ Some k)
one-path None q h = cc
one-path (Some p) None h = cc
one-path (Some p) (Some q) h = (p, refl, ap Some (sym (numbers-same p q h)))

-- ---- two events

-- in different colors both reach one key
meet-key : (x y : Row) (key color other : ℕ) → (other ≡ color → ⊥) → IsReached x.reaches key color → IsReached y.reaches key other → AreClear x y → x.end ≤ y.first
meet-key x y key color other apart r s clear =
    clear.ordered r.number s.number r.reach s.reach key r.is s.is r.from r.below s.from s.below (λ e. apart (sym s.color_is ∙ e ∙ r.color_is))

module _ (i j : ℕ) (l : i < j) (a b : Act) (e f : Entry) (x y : Row) (r : IsRowOf (own_color i) e a x) (s : IsRowOf (own_color j) f b y) (clear : AreClear x y) where
  by-touches : ConflictAll a.touches b.touches → x.end ≤ y.first
  by-touches h =
      let c = all-found a.touches b.touches h in
      let k = c.conflict.share.0 in
      let at = byte-moved c.x.area.steps (node_key c.x.node) c.x.area.at c.x.area.run k c.conflict.share.1 in
      let bt = byte-moved c.y.area.steps (node_key c.y.node) c.y.area.at c.y.area.run k c.conflict.share.2 in
      let p = (r.touches.each c.first c.x c.x_is).each (node_key c.x.node + k) at in
      let q = (s.touches.each c.second c.y c.y_is).each (node_key c.y.node + k) bt in
      meet-key x y (node_key c.x.node + k) (color_of c.x.way (own_color i)) (color_of c.y.way (own_color j)) (λ z. colors_differ c.x.way c.y.way i j l c.conflict.ways (sym z)) p (subst (λ n. IsReached y.reaches (node_key n + k) (color_of c.y.way (own_color j))) (sym c.conflict.node) q) clear

  by-paths : same_paths a.path b.path ≡ true → x.end ≤ y.first
  by-paths h =
      let p = one-path a.path b.path h in
      meet-key x y (path_key p.0) (own_color i) (own_color j) (λ z. own_differ i j l (sym z)) (r.path.each p.0 p.1) (s.path.each p.0 p.2) clear

pub rows_reach : (entries : List Entry) (acts : List Act) (rows : List Row) → AreRows entries acts rows → AreReached rows acts
rows_reach entries acts rows are =
    record {
      apart = λ i j x y l xi yj clear inv d.
          let m = inside rows i x xi in
          let n = inside rows j y yj in
          let k = are.all in
          let e = there entries i (omega (arith, m, k)) in
          let f = there entries j (omega (arith, n, k)) in
          let r = are.each i e.0 d.a x e.1 d.a_is xi in
          let s = are.each j f.0 d.b y f.1 d.b_is yj in
          none x y inv (by i j l d.a d.b e.0 f.0 x y r s clear d.depend);
    }
  where
    by : (i j : ℕ) (l : i < j) (a b : Act) (e f : Entry) (x y : Row) (r : IsRowOf (own_color i) e a x) (s : IsRowOf (own_color j) f b y) (clear : AreClear x y) → ConflictAll a.touches b.touches ⊎ (same_paths a.path b.path ≡ true) → x.end ≤ y.first
    by i j l a b e f x y r s clear (inl h) = by-touches i j l a b e f x y r s clear h
    by i j l a b e f x y r s clear (inr h) = by-paths i j l a b e f x y r s clear h

    none : (x y : Row) → y.first < x.end → x.end ≤ y.first → ⊥
    none x y p q = omega (arith, p, q)
