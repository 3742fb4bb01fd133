-- Leaf calls: what the tests tell of them.
use Rattle.std.proofs.Common.{◌≡◌, ℕ, zero, suc, ◌+◌, ◌-◌, ◌*◌, ◌<◌, ◌≤◌, ◌==◌, ◌&&◌, Bool, true, false, Some, None, List, [], ◌∷◌, ◌++◌, map, length, refl, sym, ap, ap₂, subst, ◌∙◌, inl, inr, arith}
use Rattle.std.specs.Prelude.{◌^◌, nat_eq, nat_le, Result, Ok, Err, IfOk}
use Rattle.std.specs.List.{All, Contains, slice_get}
use Rattle.std.specs.Option.{option_map, option_map_or}
use Rattle.std.proofs.lemmas.Bool.Decides.{nat_tests}
use denote.Enum.Bare.{sameb, same_true, true_same}
use Rattle.sq_num.specs.contracts.Elem as elem
use Rattle.sq_num.specs.Elements.{width}
use Rattle.sq_rect.specs.declared.view.View.{View}
use Rattle.sq_ast.specs.Modes.{is_written}
use Rattle.sq_ast.specs.declared.program.Param.{Param}
use Rattle.sq_ast.specs.declared.program.Decl.{Decl}
use Rattle.sq_ast.specs.declared.program.Decl.TheVariants as decl
use Rattle.sq_blocks.specs.Names.{Numbers}
use Rattle.sq_leaf.specs.Leaf.{written_of, local_flags}
use Rattle.sq_leaf.specs.declared.trap.Trap.{Trap}
use Rattle.sq_ir.specs.DraftLeaves.{leaves_of, shapes_of, param_shape, local_shapes}
use Rattle.sq_ir.specs.Events as events
use Rattle.sq_ir.specs.Events.{Leaves, shape_of, places, is_among}
use Rattle.sq_ir.specs.Written.{Setting, Env, node_of, count_of, spot_of, view_of}
use Rattle.sq_ir.specs.Plans.{IsCount, IsView, IsLeafCall, AreApart, AreDistinct, setting_of}
use Rattle.sq_plantext.specs.declared.text.LeafText.{LeafText}
use Rattle.sq_plantext.specs.declared.text.ViewText.{ViewText}
use Rattle.sq_plantext.specs.declared.text.EventText.TheVariants as event
use Rattle.sq_plantext.specs.declared.text.PlanText.{PlanText}
use Rattle.sq_planfile.specs.Files as files
use Rattle.sq_planfile.specs.Files.{constant, leaf_of, nodes_of, plan_of, draft_of}
use Rattle.sq_planfile.specs.Sound.{IsBufferLine, IsViewText, IsEventText}
use Rattle.sq_planfile.proofs.WellFormed.{counted}
use Rattle.sq_planevents.specs.First.{Decides}
use Rattle.sq_planevents.specs.Lines.{room_of}
use Rattle.sq_planevents.specs.Standing.{node_in, env_of}
use Rattle.sq_planevents.specs.Shapes.{kept, pairs, table_of}
use Rattle.sq_planevents.specs.Rows.{place_of, is_row}
use Rattle.sq_planevents.specs.Views.{are_words, is_strided, span_of, bytes_over, is_view, are_views, seen, IsOnce, IsSmall, IsNear}
use Rattle.sq_planevents.specs.Calls.{is_same, are_shaped, is_path, is_taken, AreSmall, AreClose, AreOnce, LieApart}
use Rattle.sq_planevents.specs.declared.shapes.Shape.{Shape}
use Rattle.sq_planevents.specs.declared.shapes.LeafShapes.{LeafShapes}
use Rattle.sq_planevents.proofs.Members.{In, there, back}
use Rattle.sq_planevents.proofs.Distinct.{places_once, places_twice}
use Rattle.sq_planevents.proofs.Standings.{level_is, size_is, offset_is, and_both, both_and}
use Rattle.sq_planevents.proofs.Spans.{IsStrided, strided, is_so, words_all, all_words, among_near, last_among, width_few}
use Rattle.sq_planevents.proofs.RowEvents.{is_count, room, place_is, row_placed, placed_row}
use Rattle.sq_planevents.proofs.Touching.{none, some, map_at, at_map, in_among, among_in}

-- ---- the shapes of a leaf's arrays

same_is : (xs ys : List ℕ) → is_same xs ys ≡ true → xs ≡ ys
same_is [] [] h = refl
same_is [] (y ∷ ys) h = let e : suc (length ys) ≡ 0 = grind (arith, nat_tests, h) in absurd (omega (arith, e))
same_is (x ∷ xs) [] h = cc
same_is (x ∷ xs) (y ∷ ys) h = let p = and_both (nat_eq x y) (is_same xs ys) h in let e : x ≡ y = grind (arith, nat_tests, p.0) in ap₂ (λ a l. a ∷ l) e (same_is xs ys p.1)

is_same_self : (xs : List ℕ) → is_same xs xs ≡ true
is_same_self [] = refl
is_same_self (x ∷ xs) = let e : nat_eq x x ≡ true = grind (arith, nat_tests) in both_and (nat_eq x x) (is_same xs xs) e (is_same_self xs)

module _ (x : PlanText) where
  shaped_is : (ss : List events.Shape) (vs : List ViewText) → are_shaped (map kept ss) vs ≡ true → ss ≡ map shape_of (map (seen x) vs)
  shaped_is [] [] h = refl
  shaped_is [] (v ∷ vs) h = let e : suc (length vs) ≡ 0 = grind (arith, nat_tests, h) in absurd (omega (arith, e))
  shaped_is (s ∷ ss) [] h = cc
  shaped_is (s ∷ ss) (v ∷ vs) h =
      let a = and_both (sameb elem.the_type s.elem v.elem && is_same s.extents v.extents) (are_shaped (map kept ss) vs) h in
      let b = and_both (sameb elem.the_type s.elem v.elem) (is_same s.extents v.extents) a.0 in
      ap₂ (λ (a : events.Shape) l. a ∷ l) (ap₂ (λ e ns. record { elem = e; extents = ns }) (same_true elem.the_type tt s.elem v.elem b.0) (same_is s.extents v.extents b.1)) (shaped_is ss vs a.1)

  shaped_self : (vs : List ViewText) → are_shaped (map kept (map shape_of (map (seen x) vs))) vs ≡ true
  shaped_self [] = refl
  shaped_self (v ∷ vs) = both_and (sameb elem.the_type v.elem v.elem && is_same v.extents v.extents) _ (both_and (sameb elem.the_type v.elem v.elem) _ (true_same elem.the_type v.elem v.elem refl) (is_same_self v.extents)) (shaped_self vs)

  map_join : {A B : Type 0} (f : A → B) (xs ys : List A) → map f (xs ++ ys) ≡ map f xs ++ map f ys
  map_join f [] ys = refl
  map_join f (a ∷ xs) ys = ap (λ l. f a ∷ l) (map_join f xs ys)

  table_shapes : (l : LeafText) → (table_of l).shapes ≡ map kept (shapes_of (leaf_of l).code)
  table_shapes l = sym (map_join kept (map (param_shape (pairs l.numbers)) l.task.params) (local_shapes (pairs l.numbers) l.task.decls))

  abbrev leaves : Leaves Trap
  leaves = leaves_of (draft_of x)

  shapes_there : (n : ℕ) (l : LeafText) → slice_get x.leaves n ≡ Some l → leaves.shapes n ≡ Some (shapes_of (leaf_of l).code)
  shapes_there n l e = ap (λ o. option_map shapes_of (option_map (λ k. k.code) o)) (at_map leaf_of x.leaves n l e)

  written_there : (n : ℕ) (l : LeafText) → slice_get x.leaves n ≡ Some l → leaves.written n ≡ written_of l.task
  written_there n l e = ap (λ o. option_map_or (λ k. written_of k.variant) (option_map (λ k. k.code) o) []) (at_map leaf_of x.leaves n l e)

  none_there : (n : ℕ) → slice_get (map leaf_of x.leaves) n ≡ None → leaves.shapes n ≡ None
  none_there n e = ap (λ o. option_map shapes_of (option_map (λ k. k.code) o)) e

  get_none : {A B : Type 0} (f : A → B) (xs : List A) (n : ℕ) → slice_get xs n ≡ None → slice_get (map f xs) n ≡ None
  get_none f [] n e = refl
  get_none f (a ∷ xs) zero e = cc
  get_none f (a ∷ xs) (suc n) e = get_none f xs n e

  none_get : {A B : Type 0} (f : A → B) (xs : List A) (n : ℕ) → slice_get (map f xs) n ≡ None → slice_get xs n ≡ None
  none_get f [] n e = refl
  none_get f (a ∷ xs) zero e = cc
  none_get f (a ∷ xs) (suc n) e = none_get f xs n e

shaped_long : (ss : List Shape) (vs : List ViewText) → are_shaped ss vs ≡ true → length ss ≡ length vs
shaped_long [] [] h = refl
shaped_long [] (v ∷ vs) h = let e : suc (length vs) ≡ 0 = grind (arith, nat_tests, h) in absurd (omega (arith, e))
shaped_long (s ∷ ss) [] h = cc
shaped_long (s ∷ ss) (v ∷ vs) h = ap suc (shaped_long ss vs (and_both (sameb elem.the_type s.elem v.elem && is_same s.extents v.extents) (are_shaped ss vs) h).1)

local_long : (numbers : Numbers) (ds : List Decl) → length (local_flags ds) ≡ length (map kept (local_shapes numbers ds))
local_long numbers [] = refl
local_long numbers (decl.Local place el name extents ∷ ds) = ap suc (local_long numbers ds)
local_long numbers (decl.Tunable place name ∷ ds) = local_long numbers ds
local_long numbers (decl.List place name ∷ ds) = local_long numbers ds
local_long numbers (decl.Rchop place name array sizes ∷ ds) = local_long numbers ds
local_long numbers (decl.Ichop place name array starts ends ∷ ds) = local_long numbers ds

params_long : (numbers : Numbers) (ps : List Param) (fs : List Bool) (ss : List Shape) → length fs ≡ length ss → length (map (λ p. is_written p.mode) ps ++ fs) ≡ length (map kept (map (param_shape numbers) ps) ++ ss)
params_long numbers [] fs ss e = e
params_long numbers (p ∷ ps) fs ss e = ap suc (params_long numbers ps fs ss e)

flags_shapes : (l : LeafText) → length (table_of l).written ≡ length (table_of l).shapes
flags_shapes l = params_long (pairs l.numbers) l.task.params (local_flags l.task.decls) (map kept (local_shapes (pairs l.numbers) l.task.decls)) (local_long (pairs l.numbers) l.task.decls)

-- ---- views, one by one

each_all : (P : ℕ → Type 0) (xs : List ℕ) → ((k : ℕ) → In xs k → P k) → All P xs
each_all P [] h k d l = absurd (omega (arith, l))
each_all P (y ∷ xs) h zero d l = h y (inl refl)
each_all P (y ∷ xs) h (suc k) d l = each_all P xs (λ k i. h k (inr i)) k d (omega (arith, l))

all_each : (P : ℕ → Type 0) (xs : List ℕ) (k : ℕ) → All P xs → In xs k → P k
all_each P [] k a h = absurd h
all_each P (y ∷ xs) k a (inl e) = subst P (sym e) (a 0 y (omega arith))
all_each P (y ∷ xs) k a (inr i) = all_each P xs k (λ n d l. a (suc n) d (omega (arith, l))) i

module _ (x : PlanText) (nodes scopes : List ℕ) (lines : All (IsBufferLine (nodes_of x)) x.buffers) where
  abbrev S : Setting
  S = setting_of (plan_of x)

  abbrev env : Env
  env = env_of nodes

  abbrev capacity : ℕ
  capacity = S.capacity (node_of env)

  -- what is asked of a view
  record IsGood (v : ViewText) : Type 0 where
    text : IsViewText v
    view : IsView S env scopes (files.view_of v)
    some_ : All (λ n. 0 < n) v.extents
    inside : All (λ k. k < capacity) (places (seen x v))

  view_is : (v : ViewText) → view_of S env (files.view_of v) ≡ seen x v
  view_is v = ap (λ a. record { at = a; elem = v.elem; extents = v.extents; strides = v.strides }) (place_is x nodes scopes lines v.slot)

  views_are : (vs : List ViewText) → map (view_of S env) (map files.view_of vs) ≡ map (seen x) vs
  views_are [] = refl
  views_are (v ∷ vs) = ap₂ (λ a l. a ∷ l) (view_is v) (views_are vs)

  module _ (v : ViewText) where
    abbrev level : ℕ
    level = (room_of x v.slot.buffer).level

    view_parts : is_view x nodes scopes v ≡ true → (is_strided v ≡ true) × (level ≡ length nodes) × (is_row x nodes scopes v.slot (bytes_over v) ≡ true)
    view_parts h =
        let a = and_both (is_strided v && (level == length nodes)) (is_row x nodes scopes v.slot (bytes_over v)) h in
        let b = and_both (is_strided v) (level == length nodes) a.0 in
        let e : level ≡ length nodes = grind (arith, nat_tests, b.1) in
        (b.0, e, a.1)

    module _ (h : is_view x nodes scopes v ≡ true) where
      abbrev is : IsStrided v
      is = strided v (view_parts h).0

      pub view_small : IsSmall v
      view_small =
          let p = row_placed x nodes scopes lines v.slot (bytes_over v) (view_parts h).2 in
          let i = p.0.inside in
          let s = size_is x v.slot.buffer in
          let r = room x nodes scopes lines v.slot.buffer in
          record { strided = (view_parts h).0; over = omega (arith, i, s, r) }

      pub view_near : IsNear x v
      view_near =
          let p = row_placed x nodes scopes lines v.slot (bytes_over v) (view_parts h).2 in
          let i = p.0.inside in
          let c = counted S v.slot.at env in
          let s = size_is x v.slot.buffer in
          let r = room x nodes scopes lines v.slot.buffer in
          record { near = omega (arith, i, c, s, r) }

      good : IsGood v
      good =
          let p = row_placed x nodes scopes lines v.slot (bytes_over v) (view_parts h).2 in
          let i = p.0.inside in
          let c = counted S v.slot.at env in
          let o = offset_is x v.slot.buffer in
          let e : S.level v.slot.buffer ≡ length nodes = level_is x v.slot.buffer ∙ (view_parts h).1 in
          let whole : (spot_of S env (files.slot_of v.slot)).at + bytes_over v ≤ capacity = subst (λ l. (spot_of S env (files.slot_of v.slot)).at + bytes_over v ≤ S.capacity (node_in nodes l)) e p.1 in
          let a = place_is x nodes scopes lines v.slot in
          record {
            text = record { some = is.some; few = is.few; alike = is.alike; extents = is.extents; strides = is.strides };
            view = record {
              scope = p.0.scope;
              at = p.0.at;
              level = e;
              inside = λ k b.
                  let n = among_near x v is k (in_among (places (seen x v)) k (there (places (seen x v)) k (subst (λ w. Contains (places w) k) (view_is v) b))) in
                  let low = n.0 in
                  let high = n.1 in
                  (omega (arith, low, o), omega (arith, high, o, i, c));
            };
            some_ = is.elements;
            inside = each_all (λ k. k < capacity) (places (seen x v)) (λ k b. let n = (among_near x v is k (in_among (places (seen x v)) k b)).1 in omega (arith, n, whole, a));
          }

    back_good : IsGood v → is_view x nodes scopes v ≡ true
    back_good g =
        let s : IsStrided v = record { some = g.text.some; few = g.text.few; alike = g.text.alike; extents = g.text.extents; strides = g.text.strides; elements = g.some_ } in
        let e : level ≡ length nodes = sym (level_is x v.slot.buffer) ∙ g.view.level in
        let top : ℕ = place_of x v.slot + width v.elem * span_of v.extents v.strides + (width v.elem - 1) in
        let has : In (places (seen x v)) top = among_in (places (seen x v)) top (last_among x v s) in
        let w = (width_few v.elem).0 in
        let in_room = (g.view.inside top (subst (λ w. Contains (places w) top) (sym (view_is v)) (back (places (seen x v)) top has))).1 in
        let in_node : top < capacity = all_each (λ k. k < capacity) (places (seen x v)) top g.inside has in
        let c = counted S v.slot.at env in
        let o = offset_is x v.slot.buffer in
        let a = place_is x nodes scopes lines v.slot in
        let whole : (spot_of S env (files.slot_of v.slot)).at + bytes_over v ≤ capacity = omega (arith, in_node, a, w) in
        let row : is_row x nodes scopes v.slot (bytes_over v) ≡ true =
        placed_row x nodes scopes lines v.slot (bytes_over v) (
          record { scope = g.view.scope; at = g.view.at; inside = omega (arith, in_room, c, o, w) },
          subst (λ l. (spot_of S env (files.slot_of v.slot)).at + bytes_over v ≤ S.capacity (node_in nodes l)) (sym g.view.level) whole,
        ) in
        let f : (level == length nodes) ≡ true = grind (arith, nat_tests, e) in
        both_and (is_strided v && (level == length nodes)) (is_row x nodes scopes v.slot (bytes_over v)) (both_and (is_strided v) (level == length nodes) (is_so v s) f) row

  pub all_close : (vs : List ViewText) → are_views x nodes scopes vs ≡ true → AreClose x vs
  all_close [] h = tt
  all_close (v ∷ vs) h = let p = and_both (is_view x nodes scopes v) (are_views x nodes scopes vs) h in ((view_small v p.0, view_near v p.0), all_close vs p.1)

  all_good : (vs : List ViewText) → are_views x nodes scopes vs ≡ true → (k : ℕ) (d : ViewText) → slice_get vs k ≡ Some d → IsGood d
  all_good [] h k d e = cc
  all_good (v ∷ vs) h zero d e = let p = and_both (is_view x nodes scopes v) (are_views x nodes scopes vs) h in let g : v ≡ d = cc in subst IsGood g (good v p.0)
  all_good (v ∷ vs) h (suc k) d e = let p = and_both (is_view x nodes scopes v) (are_views x nodes scopes vs) h in all_good vs p.1 k d e

  good_all : (vs : List ViewText) → ((k : ℕ) (d : ViewText) → slice_get vs k ≡ Some d → IsGood d) → are_views x nodes scopes vs ≡ true
  good_all [] h = refl
  good_all (v ∷ vs) h = both_and (is_view x nodes scopes v) (are_views x nodes scopes vs) (back_good v (h 0 v refl)) (good_all vs (λ k d e. h (suc k) d e))

  -- ---- paths

  path_is : (path : List ℕ) → map (λ k. count_of S k env) (map constant path) ≡ path
  path_is [] = refl
  path_is (k ∷ path) = ap₂ (λ a l. a ∷ l) (counted S k env) (path_is path)

  counts : (path : List ℕ) → All (λ n. n < 2 ^ 32) path → All (IsCount S env) (map constant path)
  counts [] h k d l = absurd (omega (arith, l))
  counts (n ∷ path) h zero d l = is_count S n env (h 0 n (omega arith))
  counts (n ∷ path) h (suc k) d l = counts path (λ j e q. h (suc j) e (omega (arith, q))) k d (omega (arith, l))

  -- ---- all views

  module _ (vs : List ViewText) where
    over_map : {B : Type 0} (f : ViewText → B) (P : B → Type 0) → ((k : ℕ) (d : ViewText) → slice_get vs k ≡ Some d → P (f d)) → All P (map f vs)
    over_map f P h = by vs h
      where
        by : (us : List ViewText) → ((k : ℕ) (d : ViewText) → slice_get us k ≡ Some d → P (f d)) → All P (map f us)
        by [] h k d l = absurd (omega (arith, l))
        by (u ∷ us) h zero d l = h 0 u refl
        by (u ∷ us) h (suc k) d l = by us (λ j e q. h (suc j) e q) k d (omega (arith, l))

    map_over : {B : Type 0} (f : ViewText → B) (P : B → Type 0) → All P (map f vs) → (k : ℕ) (d : ViewText) → slice_get vs k ≡ Some d → P (f d)
    map_over f P h = by vs h
      where
        by : (us : List ViewText) → All P (map f us) → (k : ℕ) (d : ViewText) → slice_get us k ≡ Some d → P (f d)
        by [] h k d e = cc
        by (u ∷ us) h zero d e = let g : u ≡ d = cc in subst (λ z. P (f z)) g (h 0 (f u) (omega arith))
        by (u ∷ us) h (suc k) d e = by us (λ j e q. h (suc j) e (omega (arith, q))) k d e

    self_map : (P : ViewText → Type 0) → ((k : ℕ) (d : ViewText) → slice_get vs k ≡ Some d → P d) → All P vs
    self_map P h = by vs h
      where
        by : (us : List ViewText) → ((k : ℕ) (d : ViewText) → slice_get us k ≡ Some d → P d) → All P us
        by [] h k d l = absurd (omega (arith, l))
        by (u ∷ us) h zero d l = h 0 u refl
        by (u ∷ us) h (suc k) d l = by us (λ j e q. h (suc j) e q) k d (omega (arith, l))

    map_self : (P : ViewText → Type 0) → All P vs → (k : ℕ) (d : ViewText) → slice_get vs k ≡ Some d → P d
    map_self P h = by vs h
      where
        by : (us : List ViewText) → All P us → (k : ℕ) (d : ViewText) → slice_get us k ≡ Some d → P d
        by [] h k d e = cc
        by (u ∷ us) h zero d e = let g : u ≡ d = cc in subst P g (h 0 u (omega arith))
        by (u ∷ us) h (suc k) d e = by us (λ j e q. h (suc j) e (omega (arith, q))) k d e

  long_map : {A B : Type 0} (f : A → B) (xs : List A) → length (map f xs) ≡ length xs
  long_map f [] = refl
  long_map f (a ∷ xs) = ap suc (long_map f xs)

  -- ---- the call

  module _ (leaf : ℕ) (t : LeafShapes) (l : LeafText) (of_leaf : slice_get x.leaves leaf ≡ Some l) (table : t ≡ table_of l) (vs : List ViewText) (path : List ℕ) where
    abbrev Good : Type 0
    Good = IsEventText x (env_of nodes) scopes (event.Run leaf vs path)

    shapes_same : t.shapes ≡ map kept (shapes_of (leaf_of l).code)
    shapes_same = ap (λ (z : LeafShapes). z.shapes) table ∙ table_shapes x l

    written_same : t.written ≡ (leaves x).written leaf
    written_same = ap (λ (z : LeafShapes). z.written) table ∙ sym (written_there x leaf l of_leaf)

    abbrev few_views : Bool
    few_views = nat_le (length vs) 32

    call_good : is_taken x nodes scopes t vs path ≡ true → AreApart t.written (map (seen x) vs) → Good
    call_good h a =
        let p = and_both (few_views && is_path path && are_shaped t.shapes vs) (are_views x nodes scopes vs) h in
        let q = and_both (few_views && is_path path) (are_shaped t.shapes vs) p.0 in
        let r = and_both few_views (is_path path) q.0 in
        let s = and_both (nat_le (length path) 64) (are_words path) r.1 in
        let goods = all_good vs p.1 in
        let words = words_all path s.1 in
        let shaped : are_shaped (map kept (shapes_of (leaf_of l).code)) vs ≡ true = subst (λ z. are_shaped z vs ≡ true) shapes_same q.1 in
        let few : length vs ≤ 32 = grind (arith, nat_tests, r.0) in
        let short : length path ≤ 64 = grind (arith, nat_tests, s.0) in
        let long = long_map (seen x) vs in
        record {
          views = self_map vs IsViewText (λ k d e. (goods k d e).text);
          allowed = record {
            inside = (over_map vs files.view_of (IsView S env scopes) (λ k d e. (goods k d e).view), counts path words);
            event = subst (λ z. IsLeafCall (leaves x) capacity leaf z (map (λ k. count_of S k env) (map constant path))) (sym (views_are vs))
                (subst (λ z. IsLeafCall (leaves x) capacity leaf (map (seen x) vs) z) (sym (path_is path))
                (record {
                  shapes = shapes_there x leaf l of_leaf ∙ ap Some (shaped_is x (shapes_of (leaf_of l).code) vs shaped);
                  strides = over_map vs (seen x) (λ v. length v.strides ≡ length v.extents) (λ k d e. (goods k d e).text.alike);
                  some = over_map vs (seen x) (λ v. All (λ n. 0 < n) v.extents) (λ k d e. (goods k d e).some_);
                  inside = over_map vs (seen x) (λ v. All (λ k. k < capacity) (places v)) (λ k d e. (goods k d e).inside);
                  apart = subst (λ z. AreApart z (map (seen x) vs)) written_same a;
                  few = omega (arith, few, long);
                  near = over_map vs (seen x) (λ v. v.at < 2 ^ 32) (λ k d e. near k d e p.1);
                  short = short;
                  words = words;
                }));
          };
        }
      where
        near : (k : ℕ) (d : ViewText) → slice_get vs k ≡ Some d → are_views x nodes scopes vs ≡ true → place_of x d.slot < 4294967296
        near k d e h = let n = (at_close vs (all_close vs h) k d e).near in omega (arith, n)
          where
            at_close : (us : List ViewText) → AreClose x us → (k : ℕ) (d : ViewText) → slice_get us k ≡ Some d → IsNear x d
            at_close [] h k d e = cc
            at_close (u ∷ us) h zero d e = let g : u ≡ d = cc in subst (IsNear x) g h.0.1
            at_close (u ∷ us) h (suc k) d e = at_close us h.1 k d e

    module _ (g : Good) where
      called : IsLeafCall (leaves x) capacity leaf (map (seen x) vs) path
      called = subst (λ z. IsLeafCall (leaves x) capacity leaf z path) (views_are vs) (subst (λ z. IsLeafCall (leaves x) capacity leaf (map (view_of S env) (map files.view_of vs)) z) (path_is path) g.allowed.event)

      good_apart : AreApart t.written (map (seen x) vs)
      good_apart = subst (λ z. AreApart z (map (seen x) vs)) (sym written_same) called.apart

      shapes_are : shapes_of (leaf_of l).code ≡ map shape_of (map (seen x) vs)
      shapes_are = let e : Some (shapes_of (leaf_of l).code) ≡ Some (map shape_of (map (seen x) vs)) = sym (shapes_there x leaf l of_leaf) ∙ called.shapes in cc

      good_taken : is_taken x nodes scopes t vs path ≡ true
      good_taken =
          let few = called.few in
          let long = long_map (seen x) vs in
          let few_is : length vs ≤ 32 = omega (arith, few, long) in
          let short = called.short in
          let a : few_views ≡ true = grind (arith, nat_tests, few_is) in
          let b : nat_le (length path) 64 ≡ true = grind (arith, nat_tests, short) in
          let c : is_path path ≡ true = both_and (nat_le (length path) 64) (are_words path) b (all_words path called.words) in
          let d : are_shaped t.shapes vs ≡ true = subst (λ z. are_shaped z vs ≡ true) (sym (shapes_same ∙ ap (map kept) shapes_are)) (shaped_self x vs) in
          let e : are_views x nodes scopes vs ≡ true = good_all vs (λ k d e. record {
            text = map_self vs IsViewText g.views k d e;
            view = map_over vs files.view_of (IsView S env scopes) g.allowed.inside.0 k d e;
            some_ = map_over vs (seen x) (λ v. All (λ n. 0 < n) v.extents) called.some k d e;
            inside = map_over vs (seen x) (λ v. All (λ k. k < capacity) (places v)) called.inside k d e;
          }) in
          both_and (few_views && is_path path && are_shaped t.shapes vs) (are_views x nodes scopes vs)
          (both_and (few_views && is_path path) (are_shaped t.shapes vs) (both_and few_views (is_path path) a c) d) e

    taken_decides : (told : Bool) → is_taken x nodes scopes t vs path ≡ true → Decides told (AreApart t.written (map (seen x) vs)) → Decides told Good
    taken_decides told h d = record { yes = λ e. call_good h (d.yes e); none = λ e g. d.none e (good_apart g) }

    untaken : is_taken x nodes scopes t vs path ≡ false → Decides false Good
    untaken h = none Good (λ g. let e : true ≡ false = sym (good_taken g) ∙ h in cc)

  -- by what the code finds of the leaf
  module _ (leaf : ℕ) (tables : List LeafShapes) (are : tables ≡ map table_of x.leaves) (vs : List ViewText) (path : List ℕ) where
    pub call_decides : (t : LeafShapes) (told taken : Bool) → slice_get tables leaf ≡ Some t → taken ≡ is_taken x nodes scopes t vs path → taken ≡ true → Decides told (AreApart t.written (map (seen x) vs))
        → Decides told (IsEventText x (env_of nodes) scopes (event.Run leaf vs path))
    call_decides t told taken e k h d =
        let m = map_at table_of x.leaves leaf t (subst (λ l. slice_get l leaf ≡ Some t) are e) in
        taken_decides leaf t m.0 m.1 m.2 vs path told (sym k ∙ h) d

    pub call_untaken : (t : LeafShapes) (taken : Bool) → slice_get tables leaf ≡ Some t → taken ≡ is_taken x nodes scopes t vs path → taken ≡ false → Decides false (IsEventText x (env_of nodes) scopes (event.Run leaf vs path))
    call_untaken t taken e k h =
        let m = map_at table_of x.leaves leaf t (subst (λ l. slice_get l leaf ≡ Some t) are e) in
        untaken leaf t m.0 m.1 m.2 vs path (sym k ∙ h)

    pub call_no_leaf : slice_get tables leaf ≡ None → Decides false (IsEventText x (env_of nodes) scopes (event.Run leaf vs path))
    call_no_leaf e = none _ (λ g.
        let n : (leaves x).shapes leaf ≡ None = none_there x leaf (get_none x leaf_of x.leaves leaf (none_get x table_of x.leaves leaf (subst (λ l. slice_get l leaf ≡ None) are e))) in
        let s = g.allowed.event.shapes in
        let f = sym n ∙ s in
        cc)

    -- what is known of a table that is there
    pub flags_long : (t : LeafShapes) → slice_get tables leaf ≡ Some t → is_taken x nodes scopes t vs path ≡ true → length t.written ≡ length vs
    flags_long t e h =
        let m = map_at table_of x.leaves leaf t (subst (λ l. slice_get l leaf ≡ Some t) are e) in
        let p = and_both (nat_le (length vs) 32 && is_path path && are_shaped t.shapes vs) (are_views x nodes scopes vs) h in
        let q = and_both (nat_le (length vs) 32 && is_path path) (are_shaped t.shapes vs) p.0 in
        ap (λ (z : LeafShapes). length z.written) m.2 ∙ (flags_shapes m.0 ∙ (sym (ap (λ (z : LeafShapes). length z.shapes) m.2) ∙ shaped_long t.shapes vs q.1))

-- ---- views that are written

pub fit_none : (ws : List Bool) (vs : List ViewText) → ws ≡ [] → Decides true (AreOnce ws vs)
fit_none ws vs e = some (AreOnce ws vs) (subst (λ l. AreOnce l vs) (sym e) tt)

pub fit_no_view : (w : Bool) (ws us : List Bool) (vs : List ViewText) → ws ≡ w ∷ us → vs ≡ [] → Decides true (AreOnce ws vs)
fit_no_view w ws us vs e f = some (AreOnce ws vs) (subst (λ l. AreOnce l vs) (sym e) (subst (AreOnce (w ∷ us)) (sym f) tt))

pub fit_bad : (w : Bool) (ws us : List Bool) (v : ViewText) (vs qs : List ViewText) (told : Bool) → ws ≡ w ∷ us → vs ≡ v ∷ qs → told ≡ false → Decides told (w ≡ true → IsOnce v) → Decides false (AreOnce ws vs)
fit_bad w ws us v vs qs told e f h d = none (AreOnce ws vs) (λ a. d.none h (subst (AreOnce (w ∷ us)) f (subst (λ l. AreOnce l vs) e a)).0)

pub fit_more : (w : Bool) (ws us : List Bool) (v : ViewText) (vs qs : List ViewText) (first told : Bool) → ws ≡ w ∷ us → vs ≡ v ∷ qs → first ≡ true → Decides first (w ≡ true → IsOnce v) → Decides told (AreOnce us qs)
    → Decides told (AreOnce ws vs)
fit_more w ws us v vs qs first told e f h d r = record {
  yes = λ g. subst (λ l. AreOnce l vs) (sym e) (subst (AreOnce (w ∷ us)) (sym f) (d.yes h, r.yes g));
  none = λ g a. r.none g (subst (AreOnce (w ∷ us)) f (subst (λ l. AreOnce l vs) e a)).1;
}

pub unwritten : (w : Bool) (v : ViewText) → w ≡ false → Decides true (w ≡ true → IsOnce v)
unwritten w v e = some _ (λ f. let g : true ≡ false = sym f ∙ e in absurd (cc))

pub is_fit : (w : Bool) (v : ViewText) (told : Bool) → w ≡ true → Decides told (IsOnce v) → Decides told (w ≡ true → IsOnce v)
is_fit w v told e d = record { yes = λ h f. d.yes h; none = λ h f. d.none h (f e) }

module _ (x : PlanText) where
  once_there : (ws : List Bool) (vs : List ViewText) → AreSmall vs → AreOnce ws vs → (i : ℕ) (v : View) → slice_get ws i ≡ Some true → slice_get (map (seen x) vs) i ≡ Some v → AreDistinct (places v)
  once_there [] vs s a i v e f = cc
  once_there (w ∷ ws) [] s a i v e f = cc
  once_there (w ∷ ws) (u ∷ vs) s a zero v e f =
      let g : w ≡ true = cc in
      let h : seen x u ≡ v = cc in
      subst (λ z. AreDistinct (places z)) h (places_once (seen x u) (strided u s.0.strided).alike (a.0 g))
  once_there (w ∷ ws) (u ∷ vs) s a (suc i) v e f = once_there ws vs s.1 a.1 i v e f

  there_once : (ws : List Bool) (vs : List ViewText) → AreSmall vs → ((i : ℕ) (v : View) → slice_get ws i ≡ Some true → slice_get (map (seen x) vs) i ≡ Some v → AreDistinct (places v)) → AreOnce ws vs
  there_once [] vs s h = tt
  there_once (w ∷ ws) [] s h = tt
  there_once (w ∷ ws) (u ∷ vs) s h =
      ((λ e t. places_twice (seen x u) (strided u s.0.strided).alike (strided u s.0.strided).elements t (h 0 (seen x u) (ap Some e) refl)), there_once ws vs s.1 (λ i v e f. h (suc i) v e f))

  close_small : (vs : List ViewText) → AreClose x vs → AreSmall vs
  close_small [] h = tt
  close_small (v ∷ vs) h = (h.0.0, close_small vs h.1)

  pub small_all : (vs : List ViewText) → AreClose x vs → AreSmall vs
  small_all = close_small

  pub unfit_apart : (ws : List Bool) (vs : List ViewText) (told : Bool) → AreClose x vs → told ≡ false → Decides told (AreOnce ws vs) → Decides false (AreApart ws (map (seen x) vs))
  unfit_apart ws vs told c h d = none _ (λ a. d.none h (there_once ws vs (close_small vs c) a.once))

  pub fit_apart : (ws : List Bool) (vs : List ViewText) (fit told : Bool) → AreClose x vs → fit ≡ true → Decides fit (AreOnce ws vs) → Decides told (LieApart ws (map (seen x) vs)) → Decides told (AreApart ws (map (seen x) vs))
  fit_apart ws vs fit told c h d r = record {
    yes = λ e. record { once = once_there ws vs (close_small vs c) (d.yes h); apart = r.yes e };
    none = λ e a. r.none e a.apart;
  }

pub fit_ends : {E : Type 0} (x : PlanText) (ws : List Bool) (vs : List ViewText) (fit : Bool) (r : Result Bool E) → AreClose x vs → fit ≡ true → Decides fit (AreOnce ws vs) → IfOk r (λ b. Decides b (LieApart ws (map (seen x) vs)))
    → IfOk r (λ b. Decides b (AreApart ws (map (seen x) vs)))
fit_ends x ws vs fit (Ok b) c h d e = fit_apart x ws vs fit b c h d e
fit_ends x ws vs fit (Err e) c h d f = tt

module _ (x : PlanText) (nodes scopes : List ℕ) (lines : All (IsBufferLine (nodes_of x)) x.buffers) (leaf : ℕ) (tables : List LeafShapes) (are : tables ≡ map table_of x.leaves) (vs : List ViewText) (path : List ℕ) where
  pub taken_close : (s : LeafShapes) → is_taken x nodes scopes s vs path ≡ true → AreClose x vs
  taken_close s h = all_close x nodes scopes lines vs (and_both (nat_le (length vs) 32 && is_path path && are_shaped s.shapes vs) (are_views x nodes scopes vs) h).1

  pub call_ends : {E : Type 0} (s : LeafShapes) (taken : Bool) (ws : List Bool) (r : Result Bool E) → slice_get tables leaf ≡ Some s → taken ≡ is_taken x nodes scopes s vs path → taken ≡ true → ws ≡ s.written
      → IfOk r (λ b. Decides b (AreApart ws (map (seen x) vs))) → IfOk r (λ b. Decides b (IsEventText x (env_of nodes) scopes (event.Run leaf vs path)))
  call_ends s taken ws (Ok b) e k h w d = call_decides x nodes scopes lines leaf tables are vs path s b taken e k h (subst (λ l. Decides b (AreApart l (map (seen x) vs))) w d)
  call_ends s taken ws (Err f) e k h w d = tt
