-- The run of the lowered tree, leftmost first, follows the source's meaning.
use Rattle.std.proofs.Common.{◌+◌, ◌*◌, ◌/◌, ◌%◌, List, ap₂, ◌≡◌, ℕ, zero, suc, ◌<◌, Bool, true, false, eqb, Option}
use Rattle.std.proofs.Common.{Some, None, refl, sym, ap, ◌∙◌, subst, arith, [], ◌∷◌, ◌++◌, append-nil, ◌⊎◌, inl, inr}
use Rattle.std.proofs.Common.{⊎_elim, eqb-true}
use Rattle.std.proofs.Math.Nat.{mod-lt}
use Rattle.std.proofs.lemmas.Nat.{div-mul-add, mod-mul-add, div-add-mod'}
use Rattle.sq_cells.specs.Tree.{summed, element, byte_in, combined, width_of, Trap, LeafEnd, Gives, Fails, leaf_of}
use Rattle.sq_cells.specs.Tree.{Tree, After, values, value_in, store, leaf_after, run, red_of, Writes}
use Rattle.sq_cells.specs.Correct.{AnyOrder, Follows, Meets}
use Rattle.sq_cells.proofs.Cells.{byte_table, found, not_found, put_from, table_same}
use Rattle.sq_cells.proofs.Calls.{summed_same, call_follows, call_gathers, inner_meets, Inside}
use Rattle.sq_cells.specs.Cells.{Spot, spot, State, find, put_at, put_if}
use Rattle.sq_cells.specs.Work.{Array, Work, Nothing, Then, Each, AtOnce, Call, Hold, Reduce, Piped, Leaf, Outcome}
use Rattle.sq_cells.specs.Work.{numbered, trap_of, state_or, first_trap, merged, ends_unless, at_once, leaf_outcome}
use Rattle.sq_cells.specs.Work.{any_block, returns_to, entry_of, value_at, gathered, folded, always, meaning}
use Rattle.sq_cells.specs.Machine.{Op, Form, Node, child_of, fan_of, lane_of, Rule}
use Rattle.sq_cells.specs.Lowered.{Layout, node_of, layout, beside, turns, every, tree, lane_kid, set_of, IsIn, SumCell}
use Rattle.sq_cells.specs.Lowered.{Needs, Sets, Gathers, Sound}
use Rattle.sq_cells.proofs.Access.{end_or_below}
use Rattle.sq_cells.proofs.Footprint.{Changes}
use Rattle.sq_cells.proofs.Parts.{tree_writes}
use Rattle.sq_cells.proofs.Lanes.{turns_same}
use Rattle.sq_cells.proofs.Sums.{all_folds, lane_sum, lanes_sum}
use Rattle.sq_cells.proofs.Holds.{hold_follows, within_meets, Within}
use Rattle.sq_cells.proofs.Stands.{beside_same}
use Rattle.sq_cells.proofs.Loops.{call_meets, loop_follows}
use Rattle.sq_cells.proofs.Loops as Loops
use Rattle.sq_cells.proofs.Spreads.{at_once_meets, spread_same, spread_follows}
use Rattle.sq_cells.proofs.Maps.{Agrees, After', fewer, seq_follows, each_follows, below, first_each, trap, Before}
use Rattle.sq_cells.proofs.Maps.{Touched, Done, turn, step_from, turn_meets, keep_before, keep_done, one_lane}
use Rattle.sq_cells.proofs.Maps.{many_lanes}

-- a leaf
store_from : (at : Layout) (count : ℕ) (size : ℕ → ℕ) (writes : ℕ → Bool) (val : ℕ → ℕ → ℕ) (m s : State) (l p : Spot)
    → ((i k : ℕ) → i < count → k < size i → writes i ≡ true → at (spot i k) ≡ p → spot i k ≡ l)
    → ((i k : ℕ) → i < count → k < size i → writes i ≡ true → spot i k ≡ l → at (spot i k) ≡ p)
    → (((i k : ℕ) → i < count → k < size i → writes i ≡ true → spot i k ≡ l → ⊥) → m p ≡ s l)
    → store count size writes (λ i k. at (spot i k)) val m p ≡ store count size writes spot val s l
store_from at zero size writes val m s l p fwd bwd base = base (λ i k li. absurd (omega arith))
store_from at (suc i) size writes val m s l p fwd bwd base
    = go (writes i) refl (λ b. store_from at i size writes val m s l p (λ j k lj lk y f. fwd j k (omega arith) lk y f)
    (λ j k lj lk y f. bwd j k (omega arith) lk y f) b)
  where
    go : (b : Bool) → writes i ≡ b →
        ((((j k : ℕ) → j < i → k < size j → writes j ≡ true → spot j k ≡ l → ⊥) → m p ≡ s l)
        → store i size writes (λ i k. at (spot i k)) val m p ≡ store i size writes spot val s l)
        → put_if (writes i) (size i) (λ k. at (spot i k)) (val i) (store i size writes (λ i k. at (spot i k)) val m) p
        ≡ put_if (writes i) (size i) (spot i) (val i) (store i size writes spot val s) l
    go true b rec = rw b (put_from at (size i) (spot i) (val i) (store i size writes (λ i k. at (spot i k)) val m)
        (store i size writes spot val s) l p (λ k lk f. fwd i k (omega arith) lk b f)
        (λ k lk f. bwd i k (omega arith) lk b f)
        (λ none. rec (λ below. base (λ j k lj lk y f. ⊎_elim
        (λ e. none k (subst (λ x. k < size x) e lk) (subst (λ x. spot x k ≡ l) e f)) (λ lt. below j k lt lk y f)
        (end_or_below j i lj)))))
    go false b rec = rw b (rec
        (λ below. base (λ j k lj lk y f. ⊎_elim
        (λ e. absurd (let z : writes i ≡ true = subst (λ x. writes x ≡ true) e y in cc)) (λ lt. below j k lt lk y f)
        (end_or_below j i lj))))

leaf_follows : (R : Spot → Spot → Type 0) (at : Layout) (path : List ℕ) (e : LeafEnd) (n : ℕ) (size : ℕ → ℕ)
    (writes : ℕ → Bool) (s m : State)
    → ((l p : Spot) → R l p → (val : ℕ → ℕ → ℕ) → store n size writes (λ i k. at (spot i k)) val m p
    ≡ store n size writes spot val s l)
    → Follows R path (leaf_outcome e n size writes s) (leaf_after e n size writes (λ i k. at (spot i k)) path m)
leaf_follows R at path (Gives outs) n size writes s m h = (refl, λ l p d. h l p d (value_in outs))
leaf_follows R at path (Fails kind) n size writes s m h
    = ap (λ p. Some (record { path = p; cause = kind })) (sym (append-nil path))

-- what is held before iteration t
abbrev pub Grown : (Spot → Spot → Type 0) → (ℕ → Work) → (node : Node) (kid : ℕ) → Layout → ℕ → Spot → Spot → Type 0
Grown R w node kid at j l p = R l p ⊎ ((t : ℕ) × (t < j) × Sets (w t) node kid at l p)

-- a reduction: its calls are iterations at once with the sum's cells left aside
module _ (swap : AnyOrder) (op : Op) (size : ℕ) (block : ℕ → Spot) (which : ℕ) (spread : Option Rule) (n : ℕ)
    (form : ℕ → Form) (lower : Bool) (c : ℕ → ℕ) (arrays : ℕ → ℕ → Array) (w : ℕ → Work) (node : Node) (kid : ℕ)
    (at : Layout) (path : List ℕ) (R : Spot → Spot → Type 0)
    (sound : Sound (Reduce op size block which spread n form lower c arrays w) node kid)
    (meets : Meets R (Reduce op size block which spread n form lower c arrays w) node kid at) (s : State) where
  abbrev pub calls : ℕ → Work
  calls t = Call (form t) lower (c t) (arrays t) (w t)

  abbrev pub kids : ℕ → ℕ
  kids t = lane_kid spread node kid n t

  abbrev pub IsSum : Spot → Type 0
  IsSum l = (k : ℕ) × (k < size) × (block k ≡ l)

  abbrev pub Rest : Spot → Spot → Type 0
  Rest l p = R l p × (IsSum l → ⊥)

  pub sum_cell : (l p : Spot) → Gathers (AtOnce spread n calls) node kid at l p → SumCell size block at l p
  sum_cell l p h =
      let t = h.0 in
      let q = h.2.0 in
      let i = h.2.1 in
      let e = sound.0.only t q.area h.1 i.0 h.2.2 in
      let lk : q.index < size = subst (λ x. q.index < x) (sound.0.size_is t h.1)
      (subst (λ x. q.index < (arrays t x).size) e i.1) in (
        q.index,
        lk,
        sym (sound.0.block_is t q.index h.1 lk)
            ∙ subst (λ x. (arrays t x).block q.index ≡ l) e h.2.3,
        h.2.4,
      )

  pub not_sum : (l p : Spot) → Needs (AtOnce spread n calls) node kid at l p
      ⊎ Sets (AtOnce spread n calls) node kid at l p → IsSum l → ⊥
  not_sum l p (inl h) k = let q = h.2.0 in sound.0.aside h.0 q.area q.index k.0 h.1 h.2.1.0 h.2.1.1 k.1 (inl h.2.2)
      (h.2.3 ∙ sym k.2)
  not_sum l p (inr h) k = let q = h.2.0 in sound.0.aside h.0 q.area q.index k.0 h.1 h.2.1.0 h.2.1.1 k.1 (inr h.2.2)
      (h.2.3 ∙ sym k.2)

  up : (l p : Spot) → Rest l p ⊎ Sets (AtOnce spread n calls) node kid at l p → R l p
      ⊎ Sets (Reduce op size block which spread n form lower c arrays w) node kid at l p
  up l p (inl h) = inl h.0
  up l p (inr h) = inr (inl h)

  rest_not_sum : (l p : Spot) → Rest l p ⊎ Sets (AtOnce spread n calls) node kid at l p → IsSum l → ⊥
  rest_not_sum l p (inl h) k = h.1 k
  rest_not_sum l p (inr h) k = not_sum l p (inr h) k

  pub rest_meets : Meets Rest (AtOnce spread n calls) node kid at
  rest_meets = record {
    cover = λ l p h. (meets.cover l p (inl h), not_sum l p (inl h));
    one = λ l p p' h h'. meets.one l p p' (inl h) (up l p' h');
    clear = λ l l' p h h'. meets.clear l l' p (inl h) (up l' p h');
    apart = λ l p h x. meets.apart l p (up l p h) x;
    aside = λ l l' p h x. let y = sum_cell l' p x in rest_not_sum l p h
        (y.0, y.1, y.2 ∙ meets.clear l' l p (inr y) (up l p h));
    sums = λ l l' p h h'. meets.clear l l' p (inr (sum_cell l p h)) (inr (inr (sum_cell l' p h')));
    sum_apart = λ l p h x. meets.apart l p (inr (inr (sum_cell l p h))) x;
  }

  abbrev theTurn : ℕ → Tree
  theTurn = turn Rest spread n calls node kid at path sound.1 rest_meets s

  abbrev value : ℕ → ℕ → ℕ
  value t k = value_at (meaning (w t) (entry_of (arrays t) s)) (spot which k)

  abbrev outcome : Outcome
  outcome = at_once n (λ t l. any_block (c t) (arrays t) l)
      (λ t. returns_to (meaning (w t) (entry_of (arrays t) s)) (c t) (arrays t) s) s

  -- a sum's element at the start, after one call and at the end
  abbrev first_of_sum : ℕ → List ℕ
  first_of_sum k = element (width_of op) (λ j. s (block j)) (k / width_of op)

  abbrev from_call : ℕ → ℕ → List ℕ
  from_call k t = element (width_of op) (value t) (k / width_of op)

  abbrev final : ℕ → ℕ
  final k = byte_in (width_of op) (folded op always (from_call k) n (first_of_sum k)) (k % width_of op)

  -- its bytes in a memory
  abbrev sum_in : ℕ → State → List ℕ
  sum_in k m = element (width_of op) (λ j. m (at (block j))) (k / width_of op)

  -- what the run has to show of a sum's cell
  reduce_follows : (r : After) → Follows (λ l p. Rest l p ⊎ Sets (AtOnce spread n calls) node kid at l p) path outcome r
      → (((t : ℕ) → t < n → trap Rest spread n calls node kid at path sound.1 rest_meets s t ≡ None) → (k : ℕ) → k
      < size → r.mem (at (block k)) ≡ final k)
      → Follows (After' R (Reduce op size block which spread n form lower c arrays w) node kid at) path
      (gathered outcome op size block n value s) r
  reduce_follows r f sum = go (first_trap n
      (λ t. trap_of (numbered t (returns_to (meaning (w t) (entry_of (arrays t) s)) (c t) (arrays t) s)))) refl
    where
      states : State
      states = merged n (λ t l. any_block (c t) (arrays t) l)
          (λ t. state_or s (returns_to (meaning (w t) (entry_of (arrays t) s)) (c t) (arrays t) s)) s

      go : (o : Option Trap) → first_trap n
          (λ t. trap_of (numbered t (returns_to (meaning (w t) (entry_of (arrays t) s)) (c t) (arrays t) s))) ≡ o
          → Follows (After' R (Reduce op size block which spread n form lower c arrays w) node kid at) path
          (gathered outcome op size block n value s) r
      go (Some x) e =
          let f' : Follows (λ l p. Rest l p ⊎ Sets (AtOnce spread n calls) node kid at l p) path
          (ends_unless (Some x) states) r
          = subst (λ o. Follows (λ l p. Rest l p ⊎ Sets (AtOnce spread n calls) node kid at l p) path
          (ends_unless o states) r) e f in
          subst (λ o. Follows (After' R (Reduce op size block which spread n form lower c arrays w) node kid at) path
          (gathered (ends_unless o states) op size block n value s) r) (sym e) f'
      go None e =
          let f' : Follows (λ l p. Rest l p ⊎ Sets (AtOnce spread n calls) node kid at l p) path
          (ends_unless None states) r = subst
          (λ o. Follows (λ l p. Rest l p ⊎ Sets (AtOnce spread n calls) node kid at l p) path (ends_unless o states)
          r) e f in
          subst (λ o. Follows (After' R (Reduce op size block which spread n form lower c arrays w) node kid at) path
          (gathered (ends_unless o states) op size block n value s) r) (sym e)
          (f'.0, λ l p h. cell l p h (find size block l) refl f'.1)
        where
          quiet : (t : ℕ) → t < n → trap Rest spread n calls node kid at path sound.1 rest_meets s t ≡ None
          quiet t lt = ap (below path) (first_each n
              (λ t. trap_of (numbered t (returns_to (meaning (w t) (entry_of (arrays t) s)) (c t) (arrays t) s))) e t
              lt)

          cell : (l p : Spot) → After' R (Reduce op size block which spread n form lower c arrays w) node kid at l p
              → (o : Option ℕ) → find size block l ≡ o
              → ((l p : Spot) → Rest l p ⊎ Sets (AtOnce spread n calls) node kid at l p → r.mem p ≡ states l) → r.mem p
              ≡ put_at (find size block l) final (states l)
          cell l p h (Some k) e' g =
              let y = found size block l k e' in
              rw e' (ap r.mem (sym (meets.one l (at l) p (inr (k, y.0, y.1, refl)) h))
              ∙ ap (λ q. r.mem (at q)) (sym y.1) ∙ sum quiet k y.0)
          cell l p h None e' g = rw e' (g l p (down h))
            where
              none : IsSum l → ⊥
              none k = not_found size block l e' k.0 k.1 k.2

              down : After' R (Reduce op size block which spread n form lower c arrays w) node kid at l p → Rest l p
                  ⊎ Sets (AtOnce spread n calls) node kid at l p
              down (inl x) = inl (x, none)
              down (inr (inl x)) = inr x
              down (inr (inr x)) = absurd (none (x.0, x.1, x.2))

  module _ (foot : (t : ℕ) → t < n → (p : Spot)
      → Writes (tree (w t) (node_of lower node (kids t)) 0 (layout (node_of lower node (kids t)) (form t) (arrays t) at)
      (path ++ t ∷ [])) p → Changes (w t) (node_of lower node (kids t)) 0
      (layout (node_of lower node (kids t)) (form t) (arrays t) at) p)
      (ih : (t : ℕ) → (lt : t < n) → (s' m' : State)
      → ((l p : Spot) → IsIn (c t) (arrays t) l × (layout (node_of lower node (kids t)) (form t) (arrays t) at l ≡ p)
      → m' p ≡ s' l) → Follows (λ l p.
      (IsIn (c t) (arrays t) l × (layout (node_of lower node (kids t)) (form t) (arrays t) at l ≡ p))
      ⊎ Sets (w t) (node_of lower node (kids t)) 0 (layout (node_of lower node (kids t)) (form t) (arrays t) at) l p)
      (path ++ t ∷ []) (meaning (w t) s')
      (run (tree (w t) (node_of lower node (kids t)) 0 (layout (node_of lower node (kids t)) (form t) (arrays t) at)
      (path ++ t ∷ [])) m')) (m : State) (agree : Agrees R s m) where
    turn_follows' : (t : ℕ) → t < n → (m' : State) → Agrees (λ l p. Needs (calls t) node (kids t) at l p) s m'
        → Follows (Touched Rest spread n calls node kid at path sound.1 rest_meets s t) (path ++ t ∷ [])
        (meaning (calls t) s) (run (theTurn t) m')
    turn_follows' t lt m' a =
        let x = sound.1.1 t lt in
        call_follows (form t) (c t) lower (arrays t) (w t) node (kids t) at
        (λ l p. Needs (calls t) node (kids t) at l p) x.1.0 x.1.1
        (turn_meets Rest spread n calls node kid at path sound.1 rest_meets s t lt) s (path ++ t ∷ []) _ (foot t lt)
        (ih t lt) m' a

    adds_byte : (t : ℕ) → t < n → (m' : State) → Agrees (λ l p. Needs (calls t) node (kids t) at l p) s m'
        → (run (theTurn t) m').trap ≡ None → (k : ℕ) → k < size → (run (theTurn t) m').mem (at (block k))
        ≡ summed op (λ j. m' (at (block j))) (value t) k
    adds_byte t lt m' a none k lk =
        let x = sound.1.1 t lt in
        let same = sound.0.size_is t lt in
        let inside : (j : ℕ) → j < size → j < (arrays t which).size = λ j lj. subst (λ y. j < y) (sym same) lj in
        ap (λ q. (run (theTurn t) m').mem (at q)) (sym (sound.0.block_is t k lt lk))
        ∙ call_gathers (form t) (c t) lower (arrays t) (w t) node (kids t) at
        (λ l p. Needs (calls t) node (kids t) at l p) x.1.0 x.1.1
        (turn_meets Rest spread n calls node kid at path sound.1 rest_meets s t lt) s op which (sound.0.there t lt)
        (sound.0.mode t lt) (λ j lj r. sound.0.only t j lt lj r)
        (λ k b lk lb. inside _ (sound.0.whole k b (subst (λ y. k < y) same lk) lb)) (path ++ t ∷ []) _ (foot t lt)
        (ih t lt) m' a none k (inside k lk)
        ∙ summed_same op size (λ j. m' (at ((arrays t which).block j))) (value t) (λ j. m' (at (block j))) (value t) k
        (λ b lb. sound.0.whole k b lk lb) (λ j lj. ap (λ q. m' (at q)) (sound.0.block_is t j lt lj)) (λ j lj. refl)

    adds : (k : ℕ) → k < size → (t : ℕ) → t < n → (m' : State)
        → Agrees (λ l p. Needs (calls t) node (kids t) at l p) s m' → (run (theTurn t) m').trap ≡ None
        → sum_in k (run (theTurn t) m').mem ≡ combined op (sum_in k m') (from_call k t)
    adds k lk t lt m' a none =
        table_same (width_of op) _ (red_of op (sum_in k m') (from_call k t)) (λ b lb.
        let e : (k / width_of op * width_of op + b) / width_of op ≡ k / width_of op
        = div-mul-add (k / width_of op) (width_of op) b lb in
        let f : (k / width_of op * width_of op + b) % width_of op ≡ b
        = mod-mul-add (k / width_of op) (width_of op) b lb in
        adds_byte t lt m' a none (k / width_of op * width_of op + b) (sound.0.whole k b lk lb)
        ∙ ap₂ (λ i r. red_of op (element (width_of op) (λ j. m' (at (block j))) i) (element (width_of op) (value t) i)
        r) e f)

    -- a byte of an element
    byte_of : (k : ℕ) → k < size → (m' : State) → m' (at (block k))
        ≡ byte_in (width_of op) (sum_in k m') (k % width_of op)
    byte_of k lk m' =
        ap (λ j. m' (at (block j))) (sym (div-add-mod' k (width_of op)))
        ∙ sym (byte_table (width_of op) (λ b. m' (at (block (k / width_of op * width_of op + b)))) (k % width_of op)
        (mod-lt k sound.0.some))

    rest_agree : Agrees Rest s m
    rest_agree l p h = agree l p h.0

    old : (k : ℕ) → k < size → m (at (block k)) ≡ s (block k)
    old k lk = agree (block k) (at (block k)) (meets.cover (block k) (at (block k)) (inr (k, lk, refl, refl)))

    old_sum : (k : ℕ) → k < size → sum_in k m ≡ first_of_sum k
    old_sum k lk = table_same (width_of op) _ _ (λ b lb. old _ (sound.0.whole k b lk lb))

    abbrev Bef : ℕ → State → Type 0
    Bef = Before Rest spread n calls node kid at path sound.1 rest_meets s

    abbrev Aft : ℕ → State → Type 0
    Aft = Done Rest spread n calls node kid at path sound.1 rest_meets s

    abbrev traps : ℕ → Option Trap
    traps = trap Rest spread n calls node kid at path sound.1 rest_meets s

    steps : (t : ℕ) → t < n → (m' : State) → Bef t m' → ((run (theTurn t) m').trap ≡ traps t)
        × (traps t ≡ None → Aft t (run (theTurn t) m').mem)
    steps t lt m' b = step_from Rest spread n calls node kid at path sound.1 rest_meets s t (run (theTurn t) m')
        (turn_follows' t lt m' b)

    starts : (t : ℕ) → t < n → Bef t m
    starts t lt l p h = rest_agree l p (rest_meets.cover l p (t, lt, h))

    reduce_one : ((p : Spot) → Writes (turns every n theTurn) p → Changes (AtOnce spread n calls) node kid at p)
        → Follows (After' R (Reduce op size block which spread n form lower c arrays w) node kid at) path
        (gathered outcome op size block n value s) (run (turns every n theTurn) m)
    reduce_one foot' =
        reduce_follows (run (turns every n theTurn) m)
        (one_lane Rest spread n calls node kid at path sound.1 rest_meets s turn_follows' m rest_agree foot')
        (λ quiet k lk. byte_of k lk (run (turns every n theTurn) m).mem
        ∙ ap (λ e. byte_in (width_of op) e (k % width_of op))
        (lane_sum path n theTurn traps Bef Aft steps
        (keep_before Rest spread n calls node kid at path sound.1 rest_meets s turn_follows' m rest_agree)
        (keep_done Rest spread n calls node kid at path sound.1 rest_meets s turn_follows' m rest_agree) op
        (from_call k) (sum_in k) (adds k lk) quiet every n (omega arith) m (λ t lt y. starts t lt)
        ∙ ap (folded op always (from_call k) n) (old_sum k lk)))

    reduce_many : (rule : Rule) → ((t : ℕ) → t < n → lane_of rule node n t < fan_of node)
        → ((p : Spot) → Writes (beside (fan_of node) (λ d. turns (λ t. eqb (lane_of rule node n t) d) n theTurn)) p
        → Changes (AtOnce spread n calls) node kid at p)
        → Follows (After' R (Reduce op size block which spread n form lower c arrays w) node kid at) path
        (gathered outcome op size block n value s)
        (run (beside (fan_of node) (λ d. turns (λ t. eqb (lane_of rule node n t) d) n theTurn)) m)
    reduce_many rule there foot' =
        reduce_follows (run (beside (fan_of node) (λ d. turns (λ t. eqb (lane_of rule node n t) d) n theTurn)) m)
        (many_lanes Rest spread n calls node kid at path sound.1 rest_meets s turn_follows' m rest_agree rule there
        foot')
        (λ quiet k lk. byte_of k lk (run
        (beside (fan_of node) (λ d. turns (λ t. eqb (lane_of rule node n t) d) n theTurn)) m).mem
        ∙ ap (λ e. byte_in (width_of op) e (k % width_of op))
        (lanes_sum path n theTurn traps Bef Aft steps
        (keep_before Rest spread n calls node kid at path sound.1 rest_meets s turn_follows' m rest_agree)
        (keep_done Rest spread n calls node kid at path sound.1 rest_meets s turn_follows' m rest_agree) op
        (from_call k) (sum_in k) (adds k lk) quiet (swap op) (lane_of rule node n) (fan_of node) m starts
        ∙ all_folds op (swap op) (from_call k) n (fan_of node) (lane_of rule node n) (sum_in k m) there
        ∙ ap (folded op always (from_call k) n) (old_sum k lk)))

-- the theorem: whatever else the memory holds
pub runs : AnyOrder → (w : Work) (node : Node) (kid : ℕ) (at : Layout) (path : List ℕ) (R : Spot → Spot → Type 0)
    (s m : State) → Sound w node kid → Meets R w node kid at → Agrees R s m
    → Follows (After' R w node kid at) path (meaning w s) (run (tree w node kid at path) m)
runs swap Nothing node kid at path R s m sound meets agree
    = (refl, λ l p h. ⊎_elim (λ r. agree l p r) (λ x. absurd x) h)
runs swap (Then a b) node kid at path R s m sound meets agree =
    let ma : Meets R a node kid at = record {
      cover = λ l p h. meets.cover l p (inl h);
      one = λ l p p' h h'. meets.one l p p' (inl h) (⊎_elim (λ r. inl r) (λ x. inr (inl x)) h');
      clear = λ l l' p h h'. meets.clear l l' p (inl h) (⊎_elim (λ r. inl r) (λ x. inr (inl x)) h');
      apart = λ l p h x. meets.apart l p (⊎_elim (λ r. inl r) (λ x. inr (inl x)) h) (inl x);
      aside = λ l l' p h x. meets.aside l l' p (⊎_elim (λ r. inl r) (λ x. inr (inl x)) h) (inl x);
      sums = λ l l' p h h'. meets.sums l l' p (inl h) (inl h');
      sum_apart = λ l p h x. meets.sum_apart l p (inl h) (inl x);
    } in
    let mb : Meets (After' R a node kid at) b node kid at = record {
      cover = λ l p h. inl (meets.cover l p (inr h));
      one = λ l p p' h h'. meets.one l p p' (inr h)
          (⊎_elim (λ r. ⊎_elim (λ q. inl q) (λ x. inr (inl x)) r) (λ x. inr (inr x)) h');
      clear = λ l l' p h h'. meets.clear l l' p (inr h)
          (⊎_elim (λ r. ⊎_elim (λ q. inl q) (λ x. inr (inl x)) r) (λ x. inr (inr x)) h');
      apart = λ l p h x. meets.apart l p (⊎_elim (λ r. ⊎_elim (λ q. inl q) (λ x. inr (inl x)) r) (λ x. inr (inr x)) h)
          (inr x);
      aside = λ l l' p h x. meets.aside l l' p
          (⊎_elim (λ r. ⊎_elim (λ q. inl q) (λ x. inr (inl x)) r) (λ x. inr (inr x)) h) (inr x);
      sums = λ l l' p h h'. meets.sums l l' p (inr h) (inr h');
      sum_apart = λ l p h x. meets.sum_apart l p (inr h) (inr x);
    } in
    seq_follows (After' R a node kid at) (After' R (Then a b) node kid at) path (meaning a s)
    (run (tree a node kid at path) m) (meaning b) (run (tree b node kid at path))
    (runs swap a node kid at path R s m sound.0 ma agree)
    (λ s' m' agree'. fewer (After' (After' R a node kid at) b node kid at) (After' R (Then a b) node kid at) path
    (meaning b s') (run (tree b node kid at path) m')
    (λ l p h. ⊎_elim (λ r. inl (inl r)) (λ x. ⊎_elim (λ y. inl (inr y)) (λ y. inr y) x) h)
    (runs swap b node kid at path (After' R a node kid at) s' m' sound.1 mb agree'))
runs swap (Each n w) node kid at path R s m sound meets agree =
    fewer (Grown R w node kid at n) (After' R (Each n w) node kid at) path _ _ (λ l p h. h)
    (each_follows (Grown R w node kid at) path n (λ t. meaning (w t)) (λ t. tree (w t) node kid at (path ++ t ∷ []))
    (λ t lt s' m' agree'. fewer (After' (Grown R w node kid at t) (w t) node kid at) (Grown R w node kid at (suc t))
    (path ++ t ∷ []) (meaning (w t) s') (run (tree (w t) node kid at (path ++ t ∷ [])) m')
    (λ l p h. ⊎_elim (λ r. inl (inl r))
    (λ x. ⊎_elim (λ e. inr (subst (λ y. Sets (w y) node kid at l p) e x.2)) (λ e. inl (inr (x.0, e, x.2)))
    (end_or_below x.0 t x.1)) h)
    (runs swap (w t) node kid at (path ++ t ∷ []) (Grown R w node kid at t) s' m' (sound t lt) (record {
      cover = λ l p h. inl (meets.cover l p (t, lt, h));
      one = λ l p p' h h'. meets.one l p p' (t, lt, h)
          (⊎_elim (λ r. ⊎_elim (λ q. inl q) (λ x. inr (x.0, omega (arith, x.1), x.2)) r) (λ x. inr (t, lt, x)) h');
      clear = λ l l' p h h'. meets.clear l l' p (t, lt, h)
          (⊎_elim (λ r. ⊎_elim (λ q. inl q) (λ x. inr (x.0, omega (arith, x.1), x.2)) r) (λ x. inr (t, lt, x)) h');
      apart = λ l p h x. meets.apart l p
          (⊎_elim (λ r. ⊎_elim (λ q. inl q) (λ x. inr (x.0, omega (arith, x.1), x.2)) r) (λ x. inr (t, lt, x)) h)
          (t, lt, x);
      aside = λ l l' p h x. meets.aside l l' p
          (⊎_elim (λ r. ⊎_elim (λ q. inl q) (λ x. inr (x.0, omega (arith, x.1), x.2)) r) (λ x. inr (t, lt, x)) h)
          (t, lt, x);
      sums = λ l l' p h h'. meets.sums l l' p (t, lt, h) (t, lt, h');
      sum_apart = λ l p h x. meets.sum_apart l p (t, lt, h) (t, lt, x);
    }) agree')) s m (λ l p h. ⊎_elim (λ r. agree l p r) (λ x. absurd (omega (arith, x.1))) h))
runs swap (AtOnce None n w) node kid at path R s m sound meets agree =
    one_lane R None n w node kid at path sound meets s
    (λ t lt m' a. runs swap (w t) node kid at (path ++ t ∷ []) (λ l p. Needs (w t) node kid at l p) s m'
    (sound.1 t lt).1 (turn_meets R None n w node kid at path sound meets s t lt) a) m agree
    (λ p h. tree_writes (AtOnce None n w) node kid at path p sound h)
runs swap (AtOnce (Some rule) n w) node kid at path R s m sound meets agree =
    let same : tree (AtOnce (Some rule) n w) node kid at path
    ≡ beside (fan_of node) (λ c. turns (λ t. eqb (lane_of rule node n t) c) n
    (λ t. tree (w t) node (lane_of rule node n t) at (path ++ t ∷ []))) =
    beside_same (fan_of node) _ _ (λ c. turns_same (λ t. eqb (lane_of rule node n t) c) n _ _
    (λ t e. ap (λ k. tree (w t) node k at (path ++ t ∷ [])) (sym (eqb-true (lane_of rule node n t) c e)))) in
    subst (λ t. Follows (After' R (AtOnce (Some rule) n w) node kid at) path (meaning (AtOnce (Some rule) n w) s)
    (run t m)) (sym same)
    (many_lanes R (Some rule) n w node kid at path sound meets s
    (λ t lt m' a. runs swap (w t) node (lane_of rule node n t) at (path ++ t ∷ [])
    (λ l p. Needs (w t) node (lane_of rule node n t) at l p) s m' (sound.1 t lt).1
    (turn_meets R (Some rule) n w node kid at path sound meets s t lt) a) m agree rule (λ t lt. (sound.1 t lt).0)
    (λ p h. tree_writes (AtOnce (Some rule) n w) node kid at path p sound (subst (λ t. Writes t p) (sym same) h)))
runs swap (Call form lower n arrays w) node kid at path R s m sound meets agree =
    call_follows form n lower arrays w node kid at R sound.0 sound.1 meets s path
    (tree w (node_of lower node kid) 0 (layout (node_of lower node kid) form arrays at) path)
    (λ p h. tree_writes w (node_of lower node kid) 0 (layout (node_of lower node kid) form arrays at) path p sound.2 h)
    (λ s' m' a. runs swap w (node_of lower node kid) 0 (layout (node_of lower node kid) form arrays at) path
    (Inside form n lower arrays w node kid at R sound.0 sound.1 meets) s' m' sound.2
    (inner_meets form n lower arrays w node kid at R sound.0 sound.1 meets) a) m agree
runs swap (Hold form n arrays w) node kid at path R s m sound meets agree =
    hold_follows form n arrays w node kid at R sound.0 meets path (tree w node kid at path) s
    (λ m' a. runs swap w node kid at path (Within form n arrays w node kid at R sound.0 meets) s m' sound.1
    (within_meets form n arrays w node kid at R sound.0 meets) a) m agree
runs swap (Reduce op size block which None n form lower c arrays w) node kid at path R s m sound meets agree =
    reduce_one swap op size block which None n form lower c arrays w node kid at path R sound meets s
    (λ t lt p h. tree_writes (w t) (node_of lower node kid) 0 (layout (node_of lower node kid) (form t) (arrays t) at)
    (path ++ t ∷ []) p (sound.1.1 t lt).1.2 h)
    (λ t lt s' m' a. runs swap (w t) (node_of lower node kid) 0 (layout (node_of lower node kid) (form t) (arrays t) at)
    (path ++ t ∷ []) (λ l p. IsIn (c t) (arrays t) l × (layout (node_of lower node kid) (form t) (arrays t) at l ≡ p))
    s' m' (sound.1.1 t lt).1.2 (inner_meets (form t) (c t) lower (arrays t) (w t) node kid at
    (λ l p. Needs (Call (form t) lower (c t) (arrays t) (w t)) node kid at l p) (sound.1.1 t lt).1.0
    (sound.1.1 t lt).1.1 (turn_meets
    (Rest swap op size block which None n form lower c arrays w node kid at path R sound meets s) None n
    (λ t. Call (form t) lower (c t) (arrays t) (w t)) node kid at path sound.1
    (rest_meets swap op size block which None n form lower c arrays w node kid at path R sound meets s) s t lt)) a)
    m agree (λ p h. tree_writes (AtOnce None n (λ t. Call (form t) lower (c t) (arrays t) (w t))) node kid at path p
    sound.1 h)
runs swap (Reduce op size block which (Some rule) n form lower c arrays w) node kid at path R s m sound meets agree =
    let same : tree (AtOnce (Some rule) n (λ t. Call (form t) lower (c t) (arrays t) (w t))) node kid at path
    ≡ beside (fan_of node) (λ d. turns (λ t. eqb (lane_of rule node n t) d) n
    (λ t. tree (Call (form t) lower (c t) (arrays t) (w t)) node (lane_of rule node n t) at (path ++ t ∷ []))) =
    beside_same (fan_of node) _ _ (λ d. turns_same (λ t. eqb (lane_of rule node n t) d) n _ _
    (λ t e. ap (λ k. tree (Call (form t) lower (c t) (arrays t) (w t)) node k at (path ++ t ∷ []))
    (sym (eqb-true (lane_of rule node n t) d e)))) in
    subst (λ t. Follows (After' R (Reduce op size block which (Some rule) n form lower c arrays w) node kid at) path
    (meaning (Reduce op size block which (Some rule) n form lower c arrays w) s) (run t m)) (sym same)
    (reduce_many swap op size block which (Some rule) n form lower c arrays w node kid at path R sound meets s
    (λ t lt p h. tree_writes (w t) (node_of lower node (lane_of rule node n t)) 0
    (layout (node_of lower node (lane_of rule node n t)) (form t) (arrays t) at) (path ++ t ∷ []) p (sound.1.1 t lt).1.2
    h)
    (λ t lt s' m' a. runs swap (w t) (node_of lower node (lane_of rule node n t)) 0
    (layout (node_of lower node (lane_of rule node n t)) (form t) (arrays t) at) (path ++ t ∷ [])
    (λ l p. IsIn (c t) (arrays t) l
    × (layout (node_of lower node (lane_of rule node n t)) (form t) (arrays t) at l ≡ p)) s' m' (sound.1.1 t lt).1.2
    (inner_meets (form t) (c t) lower (arrays t) (w t) node (lane_of rule node n t) at
    (λ l p. Needs (Call (form t) lower (c t) (arrays t) (w t)) node (lane_of rule node n t) at l p) (sound.1.1 t lt).1.0
    (sound.1.1 t lt).1.1 (turn_meets
    (Rest swap op size block which (Some rule) n form lower c arrays w node kid at path R sound meets s) (Some rule) n
    (λ t. Call (form t) lower (c t) (arrays t) (w t)) node kid at path sound.1
    (rest_meets swap op size block which (Some rule) n form lower c arrays w node kid at path R sound meets s) s t lt))
    a)
    m agree rule (λ t lt. (sound.1.1 t lt).0)
    (λ p h. tree_writes (AtOnce (Some rule) n (λ t. Call (form t) lower (c t) (arrays t) (w t))) node kid at path p
    sound.1 (subst (λ t. Writes t p) (sym same) h)))
runs swap (Piped None n form second c arrays w) node kid at path R s m sound meets agree =
    loop_follows n form second c arrays w node kid at path R sound meets
    (λ t lt s' m' a. runs swap (w t) (child_of node kid) 0
    (layout (child_of node kid) (set_of None node n form second t) (arrays t) at) (path ++ t ∷ [])
    (λ l p. IsIn c (arrays t) l × (layout (child_of node kid) (set_of None node n form second t) (arrays t) at l ≡ p))
    s' m' (sound.3 t lt).2
    (inner_meets (set_of None node n form second t) c true (arrays t) (w t) node kid at
    (Loops.Before n form second c arrays w node kid at path R sound meets t) (sound.3 t lt).0 (sound.3 t lt).1
    (call_meets n form second c arrays w node kid at path R sound meets t lt)) a)
    s m agree
runs swap (Piped (Some rule) n form second c arrays w) node kid at path R s m sound meets agree =
    let same = spread_same rule n form second c arrays w node kid at path R sound meets in
    subst (λ t. Follows (After' R (Piped (Some rule) n form second c arrays w) node kid at) path
    (meaning (Piped (Some rule) n form second c arrays w) s) (run t m)) (sym same)
    (spread_follows rule n form second c arrays w node kid at path R sound meets s
    (λ t lt s' m' a. runs swap (w t) (child_of node (lane_of rule node n t)) 0
    (layout (child_of node (lane_of rule node n t)) (set_of (Some rule) node n form second t) (arrays t) at)
    (path ++ t ∷ []) (λ l p. IsIn c (arrays t) l
    × (layout (child_of node (lane_of rule node n t)) (set_of (Some rule) node n form second t) (arrays t) at l ≡ p)) s'
    m' (sound.3.1 t lt).1.2
    (inner_meets (set_of (Some rule) node n form second t) c true (arrays t) (w t) node (lane_of rule node n t) at
    (λ l p. Needs (Call (set_of (Some rule) node n form second t) true c (arrays t) (w t)) node (lane_of rule node n t)
    at l p) (sound.3.1 t lt).1.0 (sound.3.1 t lt).1.1
    (turn_meets R (Some rule) n (λ t. Call (set_of (Some rule) node n form second t) true c (arrays t) (w t)) node kid
    at path sound.3 (at_once_meets rule n form second c arrays w node kid at path R sound meets) s t lt)) a)
    m agree (λ p h. tree_writes (Piped (Some rule) n form second c arrays w) node kid at path p sound
    (subst (λ t. Writes t p) (sym same) h)))
runs swap (Leaf code n size writes) node kid at path R s m sound meets agree =
    let same : values n size (λ i k. at (spot i k)) m ≡ values n size spot s
    = table_same n _ _ (λ i li. table_same (size i) _ _
    (λ k lk. agree (spot i k) (at (spot i k)) (meets.cover (spot i k) (at (spot i k)) (li, lk, refl)))) in
    subst (λ v. Follows (After' R (Leaf code n size writes) node kid at) path (meaning (Leaf code n size writes) s)
    (leaf_after (leaf_of code v) n size writes (λ i k. at (spot i k)) path m)) (sym same)
    (leaf_follows (After' R (Leaf code n size writes) node kid at) at path (leaf_of code (values n size spot s)) n size
    writes s m
    (λ l p h val. store_from at n size writes val m s l p
    (λ i k li lk y e. meets.clear (spot i k) l p (li, lk, y, e) h)
    (λ i k li lk y e. meets.one (spot i k) (at (spot i k)) p (li, lk, y, refl)
    (subst (λ x. After' R (Leaf code n size writes) node kid at x p) (sym e) h))
    (λ none. ⊎_elim (λ r. agree l p r) (λ x. absurd (none l.area l.index x.0 x.1 x.2 refl)) h)))
