-- Words reach over what the events of a well formed plan touch.
use Rattle.std.proofs.Common.{◌≡◌, ℕ, zero, suc, ◌<◌, ◌≤◌, Bool, true, false, Some, List, [], ◌∷◌, ◌++◌, map, length, slice_get, refl, sym, ap, ◌∙◌, subst, ◌⊎◌, inl, inr, arith}
use Rattle.std.specs.Prelude.{if◌then◌else◌, nat_eq}
use Rattle.std.specs.List.{All}
use Rattle.std.proofs.lemmas.List.Elements.{All-head, All-tail}
use Rattle.sq_leaf.specs.Rect.declared.view.View.{View}
use Rattle.sq_ir.specs.Tree.{Tree, Skip, Act, Stuck, Seq, Par, Within, is_done, within, waiting}
use Rattle.sq_ir.specs.Runs.{start}
use Rattle.sq_ir.specs.Unordered.{AllEvents}
use Rattle.sq_ir.specs.Events.{Event, Leaves, places, is_among}
use Rattle.sq_ir.specs.Plans.{node_at, setting_of, tree_of, MayBePerformed, IsWellFormed}
use Rattle.sq_ir.specs.declared.plan.PlanNode.{PlanNode}
use Rattle.sq_ir.specs.declared.plan.Plan.{Plan}
use Rattle.sq_ir.proofs.Exec.{both_true}
use Rattle.sq_ir.proofs.GoodPlans.{plans_stay_inside}
use Rattle.sq_areas.proofs.Among.{or_either, same_number}
use Rattle.sq_check_laws.specs.Whole.{whole_of, trimmed}
use Rattle.sq_check_laws.specs.Flaws.{most_events}
use Rattle.sq_check_laws.specs.Orders.{Item, behind, items}
use Rattle.sq_check_laws.proofs.Trimming.{trees_are_trimmed}
use Rattle.sq_check_laws.proofs.Orders.{length_items}
use Rattle.sq_touches.specs.Puts.{HaveStrides, AreBelow}
use Rattle.sq_plan_check.specs.Walked.{seen_deed, seen_entry}
use Rattle.sq_plan_check.specs.Shown.{HaveViews, HaveWords}
use Rattle.sq_plan_check.specs.Entered.{AreOfPlan}
use Rattle.sq_plan_check.specs.declared.entry.Deed.{Deed}
use Rattle.sq_plan_check.specs.declared.entry.Deed.TheVariants as deed
use Rattle.sq_plan_check.specs.declared.entry.Entry.{Entry}
use Rattle.sq_clashes.specs.Reached.{MayBeCompared}
use Rattle.sq_clashes.proofs.Items.{at_most_or, get_map, length_map}

-- ---- the events of a tree and those of the list

-- P holds of each event of a list
abbrev Each : {E : Type 0} → (E → Type 0) → List (Item E) → Type 0
Each P [] = Unit {0}
Each P (x ∷ xs) = P x.event × Each P xs

module _ {E : Type 0} (P : E → Type 0) where
  each-both : (xs ys : List (Item E)) → Each P xs → Each P ys → Each P (xs ++ ys)
  each-both [] ys h k = k
  each-both (x ∷ xs) ys h k = (h.0, each-both xs ys h.1 k)

  each-behind : (n : ℕ) (xs : List (Item E)) → Each P xs → Each P (map (behind n) xs)
  each-behind n [] h = tt
  each-behind n (x ∷ xs) h = (h.0, each-behind n xs h.1)

  each-at : (xs : List (Item E)) (i : ℕ) (x : Item E) → Each P xs → slice_get xs i ≡ Some x → P x.event
  each-at [] i x h e = cc
  each-at (y ∷ xs) zero x h e = let r : y ≡ x = cc in subst (λ (z : Item E). P z.event) r h.0
  each-at (y ∷ xs) (suc i) x h e = each-at xs i x h.1 e

module _ {E S : Type 0} (P : E → Type 0) where
  done-all : (t : Tree E S) → is_done t ≡ true → AllEvents P t
  done-all Skip h = tt
  done-all (Act e) h = cc
  done-all (Stuck e) h = cc
  done-all (Seq a b) h = let p = both_true (is_done a) (is_done b) h in (done-all a p.0, done-all b p.1)
  done-all (Par a b) h = let p = both_true (is_done a) (is_done b) h in (done-all a p.0, done-all b p.1)
  done-all (Within s a) h = done-all a h

  all-both : (F : Tree E S → Tree E S → Tree E S) (a b : Tree E S) → (AllEvents P (F a b) → AllEvents P a × AllEvents P b) → AllEvents P (if is_done a then b else (if is_done b then a else F a b)) → AllEvents P a × AllEvents P b
  all-both F a b f = by (is_done a) (is_done b) refl refl
    where
      by : (u v : Bool) → is_done a ≡ u → is_done b ≡ v → AllEvents P (if u then b else (if v then a else F a b)) → AllEvents P a × AllEvents P b
      by true v p q h = (done-all a p, h)
      by false true p q h = (h, done-all b q)
      by false false p q h = f h

  all-within : (s : S) (a : Tree E S) → AllEvents P (within s a) → AllEvents P a
  all-within s a = by (is_done a) refl
    where
      by : (u : Bool) → is_done a ≡ u → AllEvents P (if u then Skip else Within s a) → AllEvents P a
      by true p h = done-all a p
      by false p h = h

  -- what holds of the events of a tree without its empty parts
  all-whole : (t : Tree E S) → AllEvents P (trimmed t) → AllEvents P t
  all-whole Skip h = h
  all-whole (Act e) h = h
  all-whole (Stuck e) h = h
  all-whole (Seq a b) h = let k = all-both Seq (trimmed a) (trimmed b) (λ z. z) h in (all-whole a k.0, all-whole b k.1)
  all-whole (Par a b) h = let k = all-both Par (trimmed a) (trimmed b) (λ z. z) h in (all-whole a k.0, all-whole b k.1)
  all-whole (Within s a) h = all-whole a (all-within s (trimmed a) h)

  each-item : (t : Tree E S) → AllEvents P t → Each P (items t)
  each-item Skip h = tt
  each-item (Act e) h = (h, tt)
  each-item (Stuck e) h = tt
  each-item (Seq a b) h = each-both P (items a) (map (behind (waiting a)) (items b)) (each-item a h.0) (each-behind P (waiting a) (items b) (each-item b h.1))
  each-item (Par a b) h = each-both P (map (behind (waiting b)) (items a)) (items b) (each-behind P (waiting b) (items a) (each-item a h.0)) (each-item b h.1)
  each-item (Within s a) h = each-item a h

-- ---- the views of a leaf call

have-strides : (vs : List View) → All (λ v. length v.strides ≡ length v.extents) vs → HaveStrides vs
have-strides [] h = tt
have-strides (v ∷ vs) h =
    (All-head (λ (u : View). length u.strides ≡ length u.extents) v vs h, have-strides vs (All-tail (λ (u : View). length u.strides ≡ length u.extents) v vs h))

among-below : (ks : List ℕ) (most k : ℕ) → All (λ n. n < most) ks → is_among ks k ≡ true → k < most
among-below [] most k h e = cc
among-below (n ∷ ks) most k h e = by (or_either (nat_eq k n) (is_among ks k) e) (among-below ks most k (All-tail (λ n. n < most) n ks h))
  where
    by : (nat_eq k n ≡ true) ⊎ (is_among ks k ≡ true) → (is_among ks k ≡ true → k < most) → k < most
    by (inl s) f = let l = All-head (λ n. n < most) n ks h in let z = same_number k n s in omega (arith, l, z)
    by (inr s) f = f s

are-below : (most : ℕ) → most ≤ 1073741824 → (vs : List View) → All (λ v. All (λ n. 0 < n) v.extents) vs → All (λ v. All (λ k. k < most) (places v)) vs → AreBelow vs
are-below most small [] some h = tt
are-below most small (v ∷ vs) some h =
    let here = All-head (λ v. All (λ k. k < most) (places v)) v vs h in (
      record { some = All-head (λ v. All (λ n. 0 < n) v.extents) v vs some; below = λ k e. let l = among-below (places v) most k here e in omega (arith, l, small) },
      are-below most small vs (All-tail (λ v. All (λ n. 0 < n) v.extents) v vs some) (All-tail (λ v. All (λ k. k < most) (places v)) v vs h),
    )

-- no node has more bytes
node-small : (nodes : List PlanNode) (n : ℕ) → ((i : ℕ) (m : PlanNode) → slice_get nodes i ≡ Some m → m.capacity ≤ 1073741824) → (node_at nodes n).capacity ≤ 1073741824
node-small [] n h = omega arith
node-small (m ∷ nodes) zero h = h 0 m refl
node-small (m ∷ nodes) (suc n) h = node-small nodes n (λ i o e. h (suc i) o e)

-- ---- the entries of a plan

module _ {C : Type 0} (leaves : Leaves C) (plan : Plan) (well : IsWellFormed leaves plan) where
  abbrev May : Event → Type 0
  May = MayBePerformed leaves (setting_of plan).capacity

  views-of : (d : Deed) → May (seen_deed d) → HaveViews d
  views-of (deed.Copy from to bytes) h = tt
  views-of (deed.Fill to elem count value) h = tt
  views-of (deed.Acc op elem from to count) h = tt
  views-of (deed.Call node code views path) h = have-strides views h.strides

  words-of : (d : Deed) → May (seen_deed d) → HaveWords d
  words-of (deed.Copy from to bytes) h = tt
  words-of (deed.Fill to elem count value) h = tt
  words-of (deed.Acc op elem from to count) h = tt
  words-of (deed.Call node code views path) h = are-below ((setting_of plan).capacity node) (node-small plan.nodes node (λ i m e. (well.nodes.each i m e).capacity)) views h.some h.inside

  module _ (es : List Entry) (of : AreOfPlan plan (Some es)) where
    may : (i : ℕ) (e : Entry) → slice_get es i ≡ Some e → May (seen_deed e.deed)
    may i e at =
        let stay = (plans_stay_inside C leaves plan (λ a. 0) well [] [] (start (tree_of plan) (λ a. 0)) refl).1 in
        let all = each-item May (whole_of plan) (all-whole May (whole_of plan) (subst (AllEvents May) (sym (trees_are_trimmed plan)) stay)) in
        each-at May (items (whole_of plan)) i (seen_entry e) all (ap (λ l. slice_get l i) (sym of.1) ∙ get_map seen_entry es i e at)

    few : length es ≤ 65536
    few = by (at_most_or (length es) most_events)
      where
        many : length es ≡ waiting (whole_of plan)
        many = sym (length_map seen_entry es) ∙ ap length of.1 ∙ length_items (whole_of plan)

        by : (length es ≤ most_events) ⊎ (most_events < length es) → length es ≤ 65536
        by (inl l) = l
        by (inr l) = absurd (of.0 (let e = many in omega (arith, l, e)))

    pub compared : MayBeCompared es
    compared = record {
      few = few;
      views = record { views = λ i e at. views-of e.deed (may i e at) };
      words = λ i e at. words-of e.deed (may i e at);
    }
