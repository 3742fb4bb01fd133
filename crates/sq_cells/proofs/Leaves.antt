-- A leaf event is like the event of its code over cells.
use Rattle.std.proofs.Common.{◌≡◌, ℕ, zero, suc, ◌<◌, Bool, true, false, List, [], ◌∷◌, length, map, get_or, slice_get}
use Rattle.std.proofs.Common.{Some, None, refl, sym, ap, ap₂, ◌∙◌, subst, arith}
use Rattle.std.specs.Prelude.{reverse, is_none, ◌||◌}
use Rattle.std.specs.List.{Contains}
use mathlib.Core.Path.{fun_ext}
use Rattle.sq_ir.specs.Rect.declared.view.View.{View}
use Rattle.sq_ir.specs.Runs.{exec}
use Rattle.sq_ir.specs.Tree.{Act}
use Rattle.sq_ir.specs.Scopes.{Scope}
use Rattle.sq_ir.specs.Events as events
use Rattle.sq_ir.specs.Events.{Leaf, Leaves, Bytes, shape_of, places, in_view, in_views, seen, chosen, written_views}
use Rattle.sq_ir.specs.Events.{put, put_end, meaning, Finishes, Traps}
use Rattle.sq_ir.specs.Plans.{AreDistinct}
use Rattle.sq_ir.proofs.Local.{put-others}
use Rattle.sq_cells.specs.Cells.{Spot, spot, table}
use Rattle.sq_cells.specs.Tree as cells
use Rattle.sq_cells.specs.Tree.{Cause, leaf_of, leaf_after, values, value_in, store}
use Rattle.sq_cells.specs.Fits.{ActFits}
use Rattle.sq_cells.proofs.Trees.{store_out}
use Rattle.sq_cells.specs.Alike.{cell_of, state_of, end_of, IsCalled, IsLike}
use Rattle.sq_cells.specs.LeafCode.{arrays, spread, given, code_of, AreViews}
use Rattle.sq_cells.proofs.LeafRuns.{reverse-table, seen_arrays, viewed, written, view_has, put_hit, store_hit}

there_below : {A : Type 0} (xs : List A) (i : ℕ) (x : A) → slice_get xs i ≡ Some x → i < length xs
there_below [] i x e = cc
there_below (y ∷ xs) zero x e = omega arith
there_below (y ∷ xs) (suc i) x e = let h = there_below xs i x e in omega (arith, h)

below_there : {A : Type 0} (xs : List A) (i : ℕ) → i < length xs → (x : A) × (slice_get xs i ≡ Some x)
below_there [] i lt = absurd (omega arith)
below_there (y ∷ xs) zero lt = (y, refl)
below_there (y ∷ xs) (suc i) lt = below_there xs i (omega arith)

got : (ws : List Bool) (i : ℕ) → slice_get ws i ≡ Some true → get_or ws i false ≡ true
got [] i e = cc
got (w ∷ ws) zero e = cc
got (w ∷ ws) (suc i) e = got ws i e

got_from : (ws : List Bool) (i : ℕ) → get_or ws i false ≡ true → slice_get ws i ≡ Some true
got_from [] i e = cc
got_from (w ∷ ws) zero e = ap Some e
got_from (w ∷ ws) (suc i) e = got_from ws i e

contained : (ps : List ℕ) (k : ℕ) → (c : Contains ps k) → get_or ps c.0 0 ≡ k
contained [] k c = absurd (omega (arith, c.1))
contained (p ∷ ps) k (zero, lt, e) = e
contained (p ∷ ps) k (suc i, lt, e) = contained ps k (i, omega arith, e)

distinct : (ps : List ℕ) → ((k h : ℕ) → k < length ps → h < length ps → get_or ps k 0 ≡ get_or ps h 0 → k ≡ h)
    → AreDistinct ps
distinct [] one = tt
distinct (p ∷ ps) one = (
  λ c. let z = one 0 (suc c.0) (omega arith) (omega (arith, c.1)) (sym (contained ps p c)) in
      omega (arith, z),
  distinct ps (λ k h lk lh e. let z = one (suc k) (suc h) (omega (arith, lk)) (omega (arith, lh)) e
      in omega (arith, z)),
)

module _ (leaves : Leaves Cause) (node code : ℕ) (vs : List View) (path : List ℕ) (count : ℕ) (size : ℕ → ℕ)
    (writes : ℕ → Bool) (cell : ℕ → ℕ → Spot) (are : AreViews node (leaves.written code) vs count size writes cell)
    (called : IsCalled leaves code vs) where
  abbrev act : cells.Action
  act = cells.Run (code_of leaves code (map shape_of vs)) count size writes cell path

  abbrev ws : List Bool
  ws = leaves.written code

  handed : (m : Bytes) → arrays (map shape_of vs) (reverse (values count size cell (state_of m))) ≡ map (seen node m) vs
  handed m =
      ap (λ n. arrays (map shape_of vs) (reverse (values n size cell (state_of m)))) are.many
      ∙ ap (arrays (map shape_of vs)) (reverse-table [] (length vs) (λ i. cells_of i))
      ∙ seen_arrays node m vs size cell are.size_is are.cell_is
    where
      cells_of : ℕ → List ℕ
      cells_of i = table (size i) (λ k. state_of m (cell i k))

  -- a place of a view is a cell, and a cell is a place of a view
  cell_at : (i k : ℕ) → i < count → k < size i → (v : View) × (slice_get vs i ≡ Some v) × (k < length (places v))
      × (cell i k ≡ spot node (get_or (places v) k 0))
  cell_at i k li lk =
      let t = below_there vs i (subst (λ n. i < n) are.many li) in
      let l : k < length (places t.0) = subst (λ n. k < n) (are.size_is i t.0 t.1) lk in
      (t.0, t.1, l, are.cell_is i k t.0 t.1 l)

  view_at : (i k : ℕ) (v : View) → slice_get vs i ≡ Some v → k < length (places v) → (i < count) × (k < size i)
  view_at i k v t lt = (
    subst (λ n. i < n) (sym are.many) (there_below vs i v t),
    subst (λ n. k < n)
        (sym (are.size_is i v t)) lt,
  )

  module _ (m : Bytes) (fits : ActFits act) where
    left : (outs : List (List ℕ)) (a : events.Spot) → put node (chosen ws vs) outs a (m a)
        ≡ store count size writes cell (value_in (spread ws outs (map (seen node m) vs))) (state_of m) (cell_of a)
    left outs a = by (in_views node (chosen ws vs) a) refl
      where
        val : ℕ → ℕ → ℕ
        val = value_in (spread ws outs (map (seen node m) vs))

        by : (b : Bool) → in_views node (chosen ws vs) a ≡ b → put node (chosen ws vs) outs a (m a)
            ≡ store count size writes cell (value_in (spread ws outs (map (seen node m) vs))) (state_of m) (cell_of a)
        by false e = put-others node (chosen ws vs) outs a (m a) e
            ∙ sym (store_out count size writes cell (value_in (spread ws outs (map (seen node m) vs))) (state_of m)
            (cell_of a) (λ i k li lk w f.
            let c = cell_at i k li lk in
            let g : spot node (get_or (places c.0) k 0) ≡ cell_of a = sym c.3 ∙ f in
            let n : a.node ≡ node = sym (ap (λ (x : Spot). x.area) g) in
            let h : get_or (places c.0) k 0 ≡ a.at = ap (λ (x : Spot). x.index) g in
            let z = sym e ∙ in_chosen ws vs i k c.0 (got_from ws i (sym (are.writes_is i li) ∙ w)) c.1 c.2 h n in cc))
          where
            in_chosen : (ws : List Bool) (vs : List View) (i k : ℕ) (v : View) → slice_get ws i ≡ Some true
                → slice_get vs i ≡ Some v → k < length (places v) → get_or (places v) k 0 ≡ a.at → a.node ≡ node
                → in_views node (chosen ws vs) a ≡ true
            in_chosen [] vs i k v w t lt h n = cc
            in_chosen (x ∷ ws) [] i k v w t lt h n = cc
            in_chosen (false ∷ ws) (u ∷ vs) zero k v w t lt h n = cc
            in_chosen (false ∷ ws) (u ∷ vs) (suc i) k v w t lt h n = in_chosen ws vs i k v w t lt h n
            in_chosen (true ∷ ws) (u ∷ vs) zero k v w t lt h n = let f : u ≡ v
                = cc in ap (λ b. b || in_views node (chosen ws vs) a)
                (view_has node u k a (subst (λ y. k < length (places y)) (sym f) lt)
                (subst (λ y. get_or (places y) k 0 ≡ a.at) (sym f) h) n)
            in_chosen (true ∷ ws) (u ∷ vs) (suc i) k v w t lt h n
                = or_right (in_view node u a) _ (in_chosen ws vs i k v w t lt h n)
              where
                or_right : (p q : Bool) → q ≡ true → (p || q) ≡ true
                or_right true q y = refl
                or_right false q y = y
        by true e =
            let w = written node ws vs a e in
            let l = view_at w.number w.place w.view w.there w.below in
            let wr : writes w.number ≡ true = are.writes_is w.number l.0 ∙ got ws w.number w.writes in
            let at : cell w.number w.place ≡ cell_of a = are.cell_is w.number w.place w.view w.there w.below
            ∙ ap₂ spot (sym w.same) w.at in
            put_hit node m a ws vs outs w.number w.place w.view w.writes w.there w.below w.at w.same
            (λ j h u wj tj lt f.
            let lj = view_at j h u tj lt in
            let r = fits w.number w.place j h l.0 l.1 lj.0 lj.1 wr
            (at ∙ sym (are.cell_is j h u tj lt ∙ ap₂ spot (sym w.same) f)) in
            (sym r.0, sym r.1))
            ∙ sym (store_hit count size writes cell (value_in (spread ws outs (map (seen node m) vs))) (state_of m)
            w.number w.place l.0 l.1 wr (λ j h lj lh y f.
            let r = fits w.number w.place j h l.0 l.1 lj lh wr (sym f) in (sym r.0, sym r.1)))
            ∙ ap (store count size writes cell (value_in (spread ws outs (map (seen node m) vs))) (state_of m)) at

    ends : (e : events.LeafEnd Cause)
        → record {
          bytes = λ a. put_end node (chosen ws vs) e a (m a);
          finished = is_none (events.trap_end path e);
          trap
              = events.trap_end path e;
        } ≡ end_of
        (leaf_after (given ws (map (seen node m) vs) e) count size writes cell path (state_of m))
    ends (Finishes outs) = ap (λ b. record { bytes = b; finished = true; trap = None }) (fun_ext (λ a. left outs a))
    ends (Traps cause) = refl

    leaf_does : exec {S = Scope} (meaning leaves) (Act (Leaf node code vs path)) m
        ≡ end_of (cells.run (cells.Act act) (state_of m))
    unfolding leaf_of
    leaf_does =
        ends (leaves.ends code (map (seen node m) vs))
        ∙ sym (ap (λ xs. end_of (leaf_after (given ws xs (leaves.ends code xs)) count size writes cell path
        (state_of m))) (handed m))

  -- two places that are one
  one : ActFits act → (i k j h : ℕ) (v u : View) → slice_get ws i ≡ Some true → slice_get vs i ≡ Some v → slice_get vs j
      ≡ Some u → k < length (places v) → h < length (places u) → get_or (places v) k 0 ≡ get_or (places u) h 0 → (i ≡ j)
      × (k ≡ h)
  one fits i k j h v u w tv tu lk lh e =
      let a = view_at i k v tv lk in
      let b = view_at j h u tu lh in
      fits i k j h a.0 a.1 b.0 b.1 (are.writes_is i a.0 ∙ got ws i w)
      (are.cell_is i k v tv lk ∙ ap (spot node) e ∙ sym (are.cell_is j h u tu lh))

  pub like_leaf : IsLike leaves (Act (Leaf node code vs path)) (cells.Act act)
  like_leaf = record {
    does = λ fits m. leaf_does m fits;
    events = (
      λ a h. let w = written node ws vs a h in let l
          = view_at w.number w.place w.view w.there w.below in (
            w.number,
            w.place,
            l.0,
            l.1,
            are.writes_is w.number l.0
                ∙ got ws w.number w.writes,
            are.cell_is w.number w.place w.view w.there w.below ∙ ap₂ spot (sym w.same) w.at,
          ),
      λ a h. let w = viewed node vs a h in let l
          = view_at w.number w.place w.view w.there w.below in (
            w.number,
            w.place,
            l.0,
            l.1,
            are.cell_is w.number w.place w.view w.there w.below
                ∙ ap₂ spot (sym w.same) w.at,
          ),
      refl,
    );
    safe = λ free paths. tt;
    may = λ fits. (
      called,
      record {
        once = λ i v w tv. distinct (places v) (λ k h lk lh e. (one fits i k i h v v w tv tv lk lh e).1);
        apart = λ i j v u k ne w tv tu c d. ne
            (one fits i c.0 j d.0 v u w tv tu c.1 d.1 (contained (places v) k c ∙ sym (contained (places u) k d))).0;
      },
    );
    counted = λ f. refl;
  }
