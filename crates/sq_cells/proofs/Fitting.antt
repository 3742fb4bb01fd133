-- The events of the lowered tree may be performed row by row.
use Rattle.std.proofs.Common.{◌≡◌, ℕ, zero, suc, ◌<◌, Bool, true, false, cond, Option, Some, None, refl, sym, ap, ◌∙◌}
use Rattle.std.proofs.Common.{subst, arith, List, [], ◌∷◌, ◌++◌, ◌⊎◌, inl, inr, ⊎_elim, eqb, eqb-true}
use Rattle.sq_cells.specs.Cells.{Spot, spot}
use Rattle.sq_cells.specs.Machine.{Form, Node, child_of, fan_of, lane_of, Rule}
use Rattle.sq_cells.specs.Tree.{Tree, Empty, Seq}
use Rattle.sq_cells.specs.Work.{Mode, Input, Output, Both, Local, Reduced, Place, Buffer, InPlace, Held, Array, Work}
use Rattle.sq_cells.specs.Work.{Nothing, Then, Each, AtOnce, Call, Hold, Reduce, Piped, Leaf, returned, reads}
use Rattle.sq_cells.specs.Work.{is_private, is_reduced}
use Rattle.sq_cells.specs.Lowered.{Layout, node_of, own, pick, stays, held, layout, bring, clear, give_back, beside}
use Rattle.sq_cells.specs.Lowered.{turns, ins, callee, outs, call_tree, take_one, leave_one, takes, leaves, every}
use Rattle.sq_cells.specs.Lowered.{comes, starts, works, Stand, NoneYet, First, More, next_stand, stand, stage_of}
use Rattle.sq_cells.specs.Lowered.{staged, last_of, piped, set_of, piped_come, piped_work, piped_back, tree, lane_kid}
use Rattle.sq_cells.specs.Lowered.{Sets, CallFits, CallPlaced, Sound}
use Rattle.sq_cells.specs.Correct.{Meets}
use Rattle.sq_cells.specs.Fits.{AreSeparate, ActsFit, LoweredFit}
use Rattle.sq_cells.proofs.Footprint.{buffer_from}
use Rattle.sq_cells.proofs.Calls.{to, src_at, to_own, own_apart, has_block, Inside, inner_meets}
use Rattle.sq_cells.proofs.Holds.{Within, within_meets}
use Rattle.sq_cells.proofs.Runs.{Rest, rest_meets}
use Rattle.sq_cells.proofs.AnyOrder.{any_order}
use Rattle.sq_cells.proofs.Unordered.{turn_of}
use Rattle.sq_cells.proofs.Laws.{entry_meets, Stands}

-- ---- trees made of parts

beside_fit : (n : ℕ) (f : ℕ → Tree) → ((i : ℕ) → i < n → ActsFit (f i)) → ActsFit (beside n f)
beside_fit zero f h = tt
beside_fit (suc n) f h = (beside_fit n f (λ i lt. h i (omega arith)), h n (omega arith))

pick_fit : (b : Bool) (t : Tree) → (b ≡ true → ActsFit t) → ActsFit (pick b t Empty)
pick_fit true t h = h refl
pick_fit false t h = tt

turns_fit : (q : ℕ → Bool) (n : ℕ) (f : ℕ → Tree) → ((t : ℕ) → t < n → q t ≡ true → ActsFit (f t))
    → ActsFit (turns q n f)
turns_fit q zero f h = tt
turns_fit q (suc n) f h = (
  turns_fit q n f (λ t lt y. h t (omega arith) y),
  pick_fit (q n) (f n)
      (λ y. h n (omega arith) y),
)

-- a list of iterations with overlapped transfers: whatever stands in which stage
module _ (come work back : ℕ → Tree) (q : ℕ → Bool) (n : ℕ)
    (comes_fit : (t : ℕ) → t < n → q t ≡ true → ActsFit (come t))
    (work_fit : (t : ℕ) → t < n → q t ≡ true → ActsFit (work t))
    (back_fit : (t : ℕ) → t < n → q t ≡ true → ActsFit (back t)) where
  abbrev IsOne : ℕ → Type 0
  IsOne t = (t < n) × (q t ≡ true)

  abbrev AreOnes : Stand → Type 0
  AreOnes NoneYet = Unit {0}
  AreOnes (First t) = IsOne t
  AreOnes (More p t) = IsOne p × IsOne t

  ones : (j : ℕ) → j < suc n → AreOnes (stand q j)
  ones zero lt = tt
  ones (suc j) lt = go (q j) refl (stand q j) (ones j (omega arith))
    where
      next : (d : Stand) → AreOnes d → q j ≡ true → AreOnes (next_stand d j)
      next NoneYet o y = (omega arith, y)
      next (First t) o y = (o, (omega arith, y))
      next (More p t) o y = (o.1, (omega arith, y))

      go : (b : Bool) → q j ≡ b → (d : Stand) → AreOnes d → AreOnes (cond (q j) (next_stand d j) d)
      go true y d o = rw y (next d o y)
      go false y d o = rw y o

  stage_fit : (d : Stand) (u : ℕ) → AreOnes d → IsOne u → ActsFit (stage_of come work back d u)
  stage_fit NoneYet u o i = comes_fit u i.0 i.1
  stage_fit (First t) u o i = (work_fit t o.0 o.1, (tt, comes_fit u i.0 i.1))
  stage_fit (More p t) u o i = (work_fit t o.1.0 o.1.1, (back_fit p o.0.0 o.0.1, comes_fit u i.0 i.1))

  staged_fit : (j : ℕ) → j < suc n → ActsFit (staged come work back q j)
  staged_fit zero lt = tt
  staged_fit (suc j) lt = (
    staged_fit j (omega arith),
    pick_fit (q j) (stage_of come work back (stand q j) j)
        (λ y. stage_fit (stand q j) j (ones j (omega arith)) (omega arith, y)),
  )

  last_fit : (d : Stand) → AreOnes d → ActsFit (last_of work back d)
  last_fit NoneYet o = tt
  last_fit (First t) o = ((work_fit t o.0 o.1, tt), back_fit t o.0 o.1)
  last_fit (More p t) o = ((work_fit t o.1.0 o.1.1, back_fit p o.0.0 o.0.1), back_fit t o.1.0 o.1.1)

  piped_fit : ActsFit (piped come work back q n)
  piped_fit = (staged_fit n (omega arith), last_fit (stand q n) (ones n (omega arith)))

-- ---- the parts of a call

bring_fit : (m : Mode) (b : Bool) (n : ℕ) (source to : ℕ → Spot)
    → (b ≡ false → is_private m ≡ false → AreSeparate n source to) → ActsFit (bring m b n source to)
bring_fit Input true n source to h = tt
bring_fit Input false n source to h = h refl refl
bring_fit Output b n source to h = tt
bring_fit Both true n source to h = tt
bring_fit Both false n source to h = h refl refl
bring_fit Local b n source to h = tt
bring_fit (Reduced op) true n source to h = tt
bring_fit (Reduced op) false n source to h = tt

clear_fit : (m : Mode) (n : ℕ) (to : ℕ → Spot) → ActsFit (clear m n to)
clear_fit Input n to = tt
clear_fit Output n to = tt
clear_fit Both n to = tt
clear_fit Local n to = tt
clear_fit (Reduced op) n to = tt

give_fit : (m : Mode) (b : Bool) (n : ℕ) (source to : ℕ → Spot)
    → (b ≡ false → is_private m ≡ false → AreSeparate n source to)
    → (is_reduced m ≡ true → AreSeparate n source to × ((j k : ℕ) → j < n → k < n → to j ≡ to k → j ≡ k))
    → ActsFit (give_back m b n source to)
give_fit Input b n source to h g = tt
give_fit Output true n source to h g = tt
give_fit Output false n source to h g = h refl refl
give_fit Both true n source to h g = tt
give_fit Both false n source to h g = h refl refl
give_fit Local b n source to h g = tt
give_fit (Reduced op) true n source to h g = tt
give_fit (Reduced op) false n source to h g = g refl

reduced_private : (m : Mode) → is_reduced m ≡ true → is_private m ≡ true
reduced_private Input e = cc
reduced_private Output e = cc
reduced_private Both e = cc
reduced_private Local e = cc
reduced_private (Reduced op) e = refl

module _ (form : Form) (n : ℕ) (lower : Bool) (arrays : ℕ → Array) (w : Work) (node : Node) (kid : ℕ) (at : Layout)
    (R : Spot → Spot → Type 0) (fits : CallFits n arrays w (node_of lower node kid))
    (placed : CallPlaced (node_of lower node kid) form n arrays w)
    (meets : Meets R (Call form lower n arrays w) node kid at) where
  abbrev lay : Layout
  lay = layout (node_of lower node kid) form arrays at

  -- a buffer's cells and the cells of its block
  copied_apart : (i j k : ℕ) → i < n → j < (arrays i).size → k < (arrays i).size → stays (arrays i).place ≡ false
      → is_private (arrays i).mode ≡ false → lay (spot i j) ≡ at ((arrays i).block k) → ⊥
  copied_apart i j k li lj lk b p e =
      let bu = buffer_from (arrays i).place b in
      own_apart form n lower arrays w node kid at R fits placed meets (spot i j) ((arrays i).block k)
      (at ((arrays i).block k)) (li, lj) bu
      (subst (λ q. R ((arrays i).block k) q ⊎ Sets (Call form lower n arrays w) node kid at ((arrays i).block k) q)
      (src_at form n lower arrays w node kid at R fits placed meets (spot i k) bu)
      (has_block form n lower arrays w node kid at R fits placed meets (spot i k) (li, lk) p)) e

  added_apart : (i j k : ℕ) → i < n → j < (arrays i).size → k < (arrays i).size → is_reduced (arrays i).mode ≡ true
      → at ((arrays i).block j) ≡ lay (spot i k) → ⊥
  added_apart i j k li lj lk r e =
      let bu = fits.private_own i li (reduced_private (arrays i).mode r) in
      meets.sum_apart ((arrays i).block j) (at ((arrays i).block j)) (spot i j, (li, lj), r, refl, refl)
      (inl (
        spot i k,
        (li, lk),
        bu,
        sym (to_own form n lower arrays w node kid at R fits placed meets (spot i k) bu)
            ∙ sym e,
      ))

  added_once : (i j k : ℕ) → i < n → j < (arrays i).size → k < (arrays i).size → is_reduced (arrays i).mode ≡ true
      → at ((arrays i).block j) ≡ at ((arrays i).block k) → j ≡ k
  added_once i j k li lj lk r e =
      fits.distinct i j k li lj lk (meets.sums ((arrays i).block j) ((arrays i).block k) (at ((arrays i).block j))
      (spot i j, (li, lj), r, refl, refl) (spot i k, (li, lk), r, refl, sym e))

  brought_fit : (i : ℕ) → i < n → ActsFit
      (bring (arrays i).mode (stays (arrays i).place) (arrays i).size (λ k. at ((arrays i).block k))
      (λ k. lay (spot i k)))
  brought_fit i li = bring_fit (arrays i).mode (stays (arrays i).place) (arrays i).size _ _
      (λ b p j k lj lk e. copied_apart i j k li lj lk b p e)

  outs_fit : ActsFit (outs n arrays at lay)
  outs_fit = beside_fit n _ (λ i li. give_fit (arrays i).mode (stays (arrays i).place) (arrays i).size _ _
      (λ b p j k lj lk e. copied_apart i k j li lk lj b p (sym e))
      (λ r. (λ j k lj lk e. added_apart i j k li lj lk r e, λ j k lj lk e. added_once i j k li lj lk r e)))

  ins_fit : ActsFit (ins n arrays at lay)
  ins_fit = beside_fit n _ brought_fit

  callee_fit : (body : Tree) → ActsFit body → ActsFit (callee n arrays lay body)
  callee_fit body h = (beside_fit n _ (λ i li. clear_fit (arrays i).mode (arrays i).size _), h)

  call_fit : (body : Tree) → ActsFit body → ActsFit (call_tree n arrays at lay body)
  call_fit body h = (ins_fit, (callee_fit body h, outs_fit))

  comes_fit : ActsFit (comes n arrays at lay)
  comes_fit = beside_fit n _ (λ i li. go (held (arrays i).place) i li)
    where
      go : (b : Bool) (i : ℕ) → i < n
          → ActsFit (pick b Empty (bring (arrays i).mode (stays (arrays i).place) (arrays i).size
          (λ k. at ((arrays i).block k)) (λ k. lay (spot i k))))
      go true i li = tt
      go false i li = brought_fit i li

  starts_fit : ActsFit (starts n arrays at lay)
  starts_fit = beside_fit n _ (λ i li. pick_fit (held (arrays i).place) _ (λ y. brought_fit i li))

  works_fit : (body : Tree) → ActsFit body → ActsFit (works n arrays at lay body)
  works_fit body h = (starts_fit, callee_fit body h)

-- ---- held arrays

take_fit : (m : Mode) (b : Bool) (n : ℕ) (source to : ℕ → Spot) → (b ≡ true → reads m ≡ true → AreSeparate n source to)
    → ActsFit (take_one m b n source to)
take_fit m false n source to h = tt
take_fit Input true n source to h = h refl refl
take_fit Output true n source to h = tt
take_fit Both true n source to h = h refl refl
take_fit Local true n source to h = tt
take_fit (Reduced op) true n source to h = tt

leave_fit : (m : Mode) (b : Bool) (n : ℕ) (source to : ℕ → Spot)
    → (b ≡ true → returned m ≡ true → AreSeparate n source to) → ActsFit (leave_one m b n source to)
leave_fit m false n source to h = tt
leave_fit Input true n source to h = tt
leave_fit Output true n source to h = h refl refl
leave_fit Both true n source to h = h refl refl
leave_fit Local true n source to h = tt
leave_fit (Reduced op) true n source to h = tt

is_held : (a : Place) → held a ≡ true → a ≡ Held
is_held Buffer e = cc
is_held InPlace e = cc
is_held Held e = refl

hold_fit : (form : Form) (n : ℕ) (arrays : ℕ → Array) (w : Work) (node : Node) (kid : ℕ) (at : Layout)
    (R : Spot → Spot → Type 0) → Meets R (Hold form n arrays w) node kid at → (body : Tree) → ActsFit body
    → ActsFit (Seq (takes (child_of node kid) form n arrays at)
    (Seq body (leaves (child_of node kid) form n arrays at)))
hold_fit form n arrays w node kid at R meets body h = (
  beside_fit n _ (λ i li. take_fit (arrays i).mode (held (arrays i).place) (arrays i).size _ _ (λ b r j k lj lk e.
      meets.apart ((arrays i).block k) (at ((arrays i).block k))
      (inl (meets.cover _ _ (inr (spot i k, (li, lk), is_held _ b, r, refl, refl))))
      (inl (spot i j, (li, lj), is_held _ b, e)))),
  (
    h,
    beside_fit n _ (λ i li. leave_fit (arrays i).mode (held (arrays i).place) (arrays i).size _ _ (λ b r j k lj lk e.
        meets.apart ((arrays i).block j) (at ((arrays i).block j))
        (inr (inr (spot i j, (li, lj), is_held _ b, r, refl, refl)))
        (inl (spot i k, (li, lk), is_held _ b, sym e)))),
  ),
)

-- the calls of a taken loop, or of a taken spread map
piped_turn : (spread : Option Rule) (n : ℕ) (form second : Form) (c : ℕ) (arrays : ℕ → ℕ → Array) (w : ℕ → Work)
    (node : Node) (kid : ℕ) (at : Layout) (R : Spot → Spot → Type 0)
    → Meets R (Piped spread n form second c arrays w) node kid at → (t : ℕ) → t < n
    → Meets R (Call (set_of spread node n form second t) true c (arrays t) (w t)) node (lane_kid spread node kid n t) at
piped_turn spread n form second c arrays w node kid at R meets t lt = record {
  cover = λ l p h. meets.cover l p (t, lt, h);
  one = λ l p p' h h'. meets.one l p p' (t, lt, h) (⊎_elim (λ r. inl r) (λ x. inr (t, lt, x)) h');
  clear = λ l l' p h h'. meets.clear l l' p (t, lt, h) (⊎_elim (λ r. inl r) (λ x. inr (t, lt, x)) h');
  apart = λ l p h x. meets.apart l p (⊎_elim (λ r. inl r) (λ x. inr (t, lt, x)) h) (t, lt, x);
  aside = λ l l' p h x. meets.aside l l' p (⊎_elim (λ r. inl r) (λ x. inr (t, lt, x)) h) (t, lt, x);
  sums = λ l l' p h h'. meets.sums l l' p (t, lt, h) (t, lt, h');
  sum_apart = λ l p h x. meets.sum_apart l p (t, lt, h) (t, lt, x);
}

-- ---- the theorem

pub acts_fit : (w : Work) (node : Node) (kid : ℕ) (at : Layout) (path : List ℕ) (R : Spot → Spot → Type 0)
    → Sound w node kid → Meets R w node kid at → ActsFit (tree w node kid at path)
acts_fit Nothing node kid at path R sound meets = tt
acts_fit (Then a b) node kid at path R sound meets = (
  acts_fit a node kid at path R sound.0 (record {
    cover = λ l p h. meets.cover l p (inl h);
    one = λ l p p' h h'. meets.one l p p' (inl h) (⊎_elim (λ r. inl r) (λ x. inr (inl x)) h');
    clear = λ l l' p h h'. meets.clear l l' p (inl h) (⊎_elim (λ r. inl r) (λ x. inr (inl x)) h');
    apart = λ l p h x. meets.apart l p (⊎_elim (λ r. inl r) (λ x. inr (inl x)) h) (inl x);
    aside = λ l l' p h x. meets.aside l l' p (⊎_elim (λ r. inl r) (λ x. inr (inl x)) h) (inl x);
    sums = λ l l' p h h'. meets.sums l l' p (inl h) (inl h');
    sum_apart = λ l p h x. meets.sum_apart l p (inl h) (inl x);
  }),
  acts_fit b node kid at path R sound.1 (record {
    cover = λ l p h. meets.cover l p (inr h);
    one = λ l p p' h h'. meets.one l p p' (inr h) (⊎_elim (λ r. inl r) (λ x. inr (inr x)) h');
    clear = λ l l' p h h'. meets.clear l l' p (inr h) (⊎_elim (λ r. inl r) (λ x. inr (inr x)) h');
    apart = λ l p h x. meets.apart l p (⊎_elim (λ r. inl r) (λ x. inr (inr x)) h) (inr x);
    aside = λ l l' p h x. meets.aside l l' p (⊎_elim (λ r. inl r) (λ x. inr (inr x)) h) (inr x);
    sums = λ l l' p h h'. meets.sums l l' p (inr h) (inr h');
    sum_apart = λ l p h x. meets.sum_apart l p (inr h) (inr x);
  }),
)
acts_fit (Each n w) node kid at path R sound meets =
    turns_fit every n _ (λ t lt y. acts_fit (w t) node kid at (path ++ t ∷ []) R (sound t lt) (record {
      cover = λ l p h. meets.cover l p (t, lt, h);
      one = λ l p p' h h'. meets.one l p p' (t, lt, h) (⊎_elim (λ r. inl r) (λ x. inr (t, lt, x)) h');
      clear = λ l l' p h h'. meets.clear l l' p (t, lt, h) (⊎_elim (λ r. inl r) (λ x. inr (t, lt, x)) h');
      apart = λ l p h x. meets.apart l p (⊎_elim (λ r. inl r) (λ x. inr (t, lt, x)) h) (t, lt, x);
      aside = λ l l' p h x. meets.aside l l' p (⊎_elim (λ r. inl r) (λ x. inr (t, lt, x)) h) (t, lt, x);
      sums = λ l l' p h h'. meets.sums l l' p (t, lt, h) (t, lt, h');
      sum_apart = λ l p h x. meets.sum_apart l p (t, lt, h) (t, lt, x);
    }))
acts_fit (AtOnce None n w) node kid at path R sound meets =
    turns_fit every n _ (λ t lt y. acts_fit (w t) node kid at (path ++ t ∷ []) R (sound.1 t lt).1
    (turn_of None n w node kid at R meets t lt))
acts_fit (AtOnce (Some rule) n w) node kid at path R sound meets =
    beside_fit (fan_of node) _ (λ d ld. turns_fit (λ t. eqb (lane_of rule node n t) d) n _ (λ t lt y.
    subst (λ k. ActsFit (tree (w t) node k at (path ++ t ∷ []))) (eqb-true (lane_of rule node n t) d y)
    (acts_fit (w t) node (lane_of rule node n t) at (path ++ t ∷ []) R (sound.1 t lt).1
    (turn_of (Some rule) n w node kid at R meets t lt))))
acts_fit (Call form lower n arrays w) node kid at path R sound meets =
    call_fit form n lower arrays w node kid at R sound.0 sound.1 meets _
    (acts_fit w (node_of lower node kid) 0 (layout (node_of lower node kid) form arrays at) path
    (Inside form n lower arrays w node kid at R sound.0 sound.1 meets) sound.2
    (inner_meets form n lower arrays w node kid at R sound.0 sound.1 meets))
acts_fit (Hold form n arrays w) node kid at path R sound meets =
    hold_fit form n arrays w node kid at R meets _
    (acts_fit w node kid at path (Within form n arrays w node kid at R sound.0 meets) sound.1
    (within_meets form n arrays w node kid at R sound.0 meets))
acts_fit (Reduce op size block which None n form lower c arrays w) node kid at path R sound meets =
    turns_fit every n _ (λ t lt y.
    let one = turn_of None n (λ t. Call (form t) lower (c t) (arrays t) (w t)) node kid at
    (Rest any_order op size block which None n form lower c arrays w node kid at path R sound meets (λ q. 0))
    (rest_meets any_order op size block which None n form lower c arrays w node kid at path R sound meets (λ q. 0))
    t lt in
    call_fit (form t) (c t) lower (arrays t) (w t) node kid at _ (sound.1.1 t lt).1.0 (sound.1.1 t lt).1.1 one _
    (acts_fit (w t) (node_of lower node kid) 0 (layout (node_of lower node kid) (form t) (arrays t) at)
    (path ++ t ∷ []) _ (sound.1.1 t lt).1.2
    (inner_meets (form t) (c t) lower (arrays t) (w t) node kid at _ (sound.1.1 t lt).1.0 (sound.1.1 t lt).1.1
    one)))
acts_fit (Reduce op size block which (Some rule) n form lower c arrays w) node kid at path R sound meets =
    beside_fit (fan_of node) _ (λ d ld. turns_fit (λ t. eqb (lane_of rule node n t) d) n _ (λ t lt y.
    let one = turn_of (Some rule) n (λ t. Call (form t) lower (c t) (arrays t) (w t)) node kid at
    (Rest any_order op size block which (Some rule) n form lower c arrays w node kid at path R sound meets (λ q. 0))
    (rest_meets any_order op size block which (Some rule) n form lower c arrays w node kid at path R sound meets
    (λ q. 0)) t lt in
    subst (λ k. ActsFit (call_tree (c t) (arrays t) at (layout (node_of lower node k) (form t) (arrays t) at)
    (tree (w t) (node_of lower node k) 0 (layout (node_of lower node k) (form t) (arrays t) at) (path ++ t ∷ []))))
    (eqb-true (lane_of rule node n t) d y)
    (call_fit (form t) (c t) lower (arrays t) (w t) node (lane_of rule node n t) at _ (sound.1.1 t lt).1.0
    (sound.1.1 t lt).1.1 one _ (acts_fit (w t) (node_of lower node (lane_of rule node n t)) 0
    (layout (node_of lower node (lane_of rule node n t)) (form t) (arrays t) at) (path ++ t ∷ []) _ (sound.1.1 t lt).1.2
    (inner_meets (form t) (c t) lower (arrays t) (w t) node (lane_of rule node n t) at _ (sound.1.1 t lt).1.0
    (sound.1.1 t lt).1.1 one)))))
acts_fit (Piped None n form second c arrays w) node kid at path R sound meets =
    piped_fit _ _ _ every n
    (λ t lt y. comes_fit (set_of None node n form second t) c true (arrays t) (w t) node kid at R (sound.3 t lt).0
    (sound.3 t lt).1 (piped_turn None n form second c arrays w node kid at R meets t lt))
    (λ t lt y. works_fit (set_of None node n form second t) c true (arrays t) (w t) node kid at R (sound.3 t lt).0
    (sound.3 t lt).1 (piped_turn None n form second c arrays w node kid at R meets t lt) _
    (acts_fit (w t) (child_of node kid) 0 (layout (child_of node kid) (set_of None node n form second t) (arrays t) at)
    (path ++ t ∷ []) _ (sound.3 t lt).2
    (inner_meets (set_of None node n form second t) c true (arrays t) (w t) node kid at R (sound.3 t lt).0
    (sound.3 t lt).1 (piped_turn None n form second c arrays w node kid at R meets t lt))))
    (λ t lt y. outs_fit (set_of None node n form second t) c true (arrays t) (w t) node kid at R (sound.3 t lt).0
    (sound.3 t lt).1 (piped_turn None n form second c arrays w node kid at R meets t lt))
acts_fit (Piped (Some rule) n form second c arrays w) node kid at path R sound meets =
    beside_fit (fan_of node) _ (λ d ld. piped_fit _ _ _ (λ t. eqb (lane_of rule node n t) d) n
    (λ t lt y. subst (λ k. ActsFit (piped_come (Some rule) node k n form second c arrays at t))
    (eqb-true (lane_of rule node n t) d y)
    (comes_fit (set_of (Some rule) node n form second t) c true (arrays t) (w t) node (lane_of rule node n t) at R
    (sound.3.1 t lt).1.0 (sound.3.1 t lt).1.1
    (piped_turn (Some rule) n form second c arrays w node kid at R meets t lt)))
    (λ t lt y. subst (λ k. ActsFit
    (piped_work (Some rule) node k n form second c arrays at
    (λ t. tree (w t) (child_of node k) 0
    (layout (child_of node k) (set_of (Some rule) node n form second t) (arrays t) at) (path ++ t ∷ [])) t))
    (eqb-true (lane_of rule node n t) d y)
    (works_fit (set_of (Some rule) node n form second t) c true (arrays t) (w t) node (lane_of rule node n t) at R
    (sound.3.1 t lt).1.0 (sound.3.1 t lt).1.1 (piped_turn (Some rule) n form second c arrays w node kid at R meets t lt)
    _
    (acts_fit (w t) (child_of node (lane_of rule node n t)) 0
    (layout (child_of node (lane_of rule node n t)) (set_of (Some rule) node n form second t) (arrays t) at)
    (path ++ t ∷ []) _ (sound.3.1 t lt).1.2
    (inner_meets (set_of (Some rule) node n form second t) c true (arrays t) (w t) node (lane_of rule node n t) at R
    (sound.3.1 t lt).1.0 (sound.3.1 t lt).1.1
    (piped_turn (Some rule) n form second c arrays w node kid at R meets t lt)))))
    (λ t lt y. subst (λ k. ActsFit (piped_back (Some rule) node k n form second c arrays at t))
    (eqb-true (lane_of rule node n t) d y)
    (outs_fit (set_of (Some rule) node n form second t) c true (arrays t) (w t) node (lane_of rule node n t) at R
    (sound.3.1 t lt).1.0 (sound.3.1 t lt).1.1
    (piped_turn (Some rule) n form second c arrays w node kid at R meets t lt))))
acts_fit (Leaf code n size writes) node kid at path R sound meets =
    λ i k j h li lk lj lh y e. both
    (meets.clear (spot i k) (spot j h) (at (spot i k)) (li, lk, y, refl)
    (inl (subst (R (spot j h)) (sym e) (meets.cover (spot j h) (at (spot j h)) (lj, lh, refl)))))
  where
    both : {p q : Spot} → p ≡ q → (p.area ≡ q.area) × (p.index ≡ q.index)
    both e = (ap (λ (x : Spot). x.area) e, ap (λ (x : Spot). x.index) e)

pub lowered_fit : LoweredFit
lowered_fit root form n arrays w e
    = acts_fit w root 0 (own root form) [] (Stands root form n arrays) e.sound (entry_meets root form n arrays w e)
