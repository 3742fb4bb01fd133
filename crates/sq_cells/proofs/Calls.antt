-- A call: the arguments come in, the callee runs on them, and what it wrote goes back.
use Rattle.sq_cells.specs.Machine.{Op, Form, Node}
use Rattle.std.proofs.Common.{◌+◌, ◌*◌, ◌/◌, ◌%◌, List, ◌≡◌, ◌≢◌, ℕ, zero, suc, ◌<◌, ◌≤◌, Bool, true, false, eqb, Some}
use Rattle.std.proofs.Common.{None, refl, sym, ap, ap₂, ◌∙◌, subst, arith, ◌⊎◌, inl, inr, ⊎_elim, eqb-true, eq-eqb}
use Rattle.sq_ir.specs.Runs.{least}
use Rattle.sq_cells.specs.Tree.{summed, width_of, red_of, identity_of, Tree, Seq, go_on, run, Writes}
use Rattle.sq_cells.proofs.Cells.{table_same, put_in, put_out, spot_path}
use Rattle.sq_cells.specs.Cells.{Spot, spot, State, put_if}
use Rattle.sq_cells.specs.Work.{Mode, Input, Output, Both, Local, Reduced, Place, Buffer, InPlace, Held, Array, Work}
use Rattle.sq_cells.specs.Work.{Call, Outcome, Ends, Traps, returned, reads, is_private, is_reduced, start_of, entry_of}
use Rattle.sq_cells.specs.Work.{come_back, returns_to, value_at, any_block, meaning}
use Rattle.sq_cells.specs.Lowered.{Layout, node_of, own, stays, in_place, bring, clear, give_back, beside, call_tree}
use Rattle.sq_cells.specs.Lowered.{IsIn, Scratch, Sets, Gathers, CallFits, CallPlaced}
use Rattle.sq_cells.specs.Correct.{under, Follows, Meets}
use Rattle.sq_cells.proofs.Trees.{run_frame}
use Rattle.sq_cells.proofs.Access.{private_true, private_not_local, block_from, block_true, returned_from}
use Rattle.sq_cells.proofs.Access.{reads_not_local, reads_or_returned, local_cases, place_cases, end_or_below}
use Rattle.sq_cells.proofs.Footprint.{Brought, bring_writes, clear_writes, give_writes, beside_writes, buffer_from}
use Rattle.sq_cells.proofs.Footprint.{Changes, inner, from, same_place, inner_buffer, from_buffer, stays_public}
use Rattle.sq_cells.proofs.Footprint.{call_writes}

pub beside_none : (n : ℕ) (f : ℕ → Tree) → ((i : ℕ) → i < n → (m : State) → (run (f i) m).trap ≡ None) → (m : State)
    → (run (beside n f) m).trap ≡ None
beside_none zero f h m = refl
beside_none (suc n) f h m = ap₂ least (beside_none n f (λ i lt. h i (omega arith)) m)
    (h n (omega arith) (run (beside n f) m).mem)

pub seq_run : (a b : Tree) (m : State) → (run a m).trap ≡ None → run (Seq a b) m ≡ run b (run a m).mem
seq_run a b m e = ap (λ o. go_on o (run a m).mem (run b)) e

pub bring_none : (m : Mode) (b : Bool) (n : ℕ) (f to : ℕ → Spot) (s : State) → (run (bring m b n f to) s).trap ≡ None
bring_none Input true n from to s = refl
bring_none Input false n from to s = refl
bring_none Output b n from to s = refl
bring_none Both true n from to s = refl
bring_none Both false n from to s = refl
bring_none Local b n from to s = refl
bring_none (Reduced op) true n from to s = refl
bring_none (Reduced op) false n from to s = refl

pub clear_none : (m : Mode) (n : ℕ) (to : ℕ → Spot) (s : State) → (run (clear m n to) s).trap ≡ None
clear_none Input n to s = refl
clear_none Output n to s = refl
clear_none Both n to s = refl
clear_none Local n to s = refl
clear_none (Reduced op) n to s = refl

pub give_none : (m : Mode) (b : Bool) (n : ℕ) (from to : ℕ → Spot) (s : State) → (run (give_back m b n from to) s).trap
    ≡ None
give_none Input b n from to s = refl
give_none Output true n from to s = refl
give_none Output false n from to s = refl
give_none Both true n from to s = refl
give_none Both false n from to s = refl
give_none Local b n from to s = refl
give_none (Reduced op) true n from to s = refl
give_none (Reduced op) false n from to s = refl

-- the value of a parameter's cell after it came in
pub bring_value : (m : Mode) (b : Bool) (n : ℕ) (from to : ℕ → Spot) (s : State) (k v : ℕ) → k < n → m ≢ Local
    → (is_private m ≡ true → b ≡ false) → (reads m ≡ true → b ≡ true → s (to k) ≡ v)
    → (reads m ≡ true → b ≡ false → s (from k) ≡ v) → (Brought m b → (j : ℕ) → j < n → to j ≡ to k → j ≡ k)
    → (run (bring m b n from to) s).mem (to k) ≡ start_of m k v
bring_value Input true n from to s k v lt ne pr here there h = here refl refl
bring_value Input false n from to s k v lt ne pr here there h = put_in n to (λ k. s (from k)) s k lt (h (inl refl))
    ∙ there refl refl
bring_value Output b n from to s k v lt ne pr here there h = put_in n to (λ k. 0) s k lt (h (inr refl))
bring_value Both true n from to s k v lt ne pr here there h = here refl refl
bring_value Both false n from to s k v lt ne pr here there h = put_in n to (λ k. s (from k)) s k lt (h (inl refl))
    ∙ there refl refl
bring_value Local b n from to s k v lt ne pr here there h = absurd (ne refl)
bring_value (Reduced op) true n from to s k v lt ne pr here there h = let z = pr refl in cc
bring_value (Reduced op) false n from to s k v lt ne pr here there h
    = put_in n to (λ k. identity_of op (k % width_of op)) s k lt (h (inl refl))

clear_value : (m : Mode) (n : ℕ) (to : ℕ → Spot) (s : State) (k : ℕ) → k < n → m ≡ Local
    → ((j : ℕ) → j < n → to j ≡ to k → j ≡ k) → (run (clear m n to) s).mem (to k) ≡ 0
clear_value Input n to s k lt e h = cc
clear_value Output n to s k lt e h = cc
clear_value Both n to s k lt e h = cc
clear_value (Reduced op) n to s k lt e h = cc
clear_value Local n to s k lt e h = put_in n to (λ k. 0) s k lt h

-- the value of an element's place after its array went back
give_value : (m : Mode) (n : ℕ) (from to : ℕ → Spot) (s : State) (k : ℕ) → returned m ≡ true → k < n
    → ((j : ℕ) → j < n → to j ≡ to k → j ≡ k) → (run (give_back m false n from to) s).mem (to k) ≡ s (from k)
give_value Input n from to s k r lt h = cc
give_value Output n from to s k r lt h = put_in n to (λ k. s (from k)) s k lt h
give_value Both n from to s k r lt h = put_in n to (λ k. s (from k)) s k lt h
give_value Local n from to s k r lt h = cc
give_value (Reduced op) n from to s k r lt h = cc

-- what is combined depends on the values in range alone
pub summed_same : (op : Op) (size : ℕ) (x y x' y' : ℕ → ℕ) (k : ℕ)
    → ((b : ℕ) → b < width_of op → k / width_of op * width_of op + b < size) → ((j : ℕ) → j < size → x j ≡ x' j)
    → ((j : ℕ) → j < size → y j ≡ y' j) → summed op x y k ≡ summed op x' y' k
summed_same op size x y x' y' k whole h g =
    ap₂ (λ (u v : List ℕ). red_of op u v (k % width_of op))
    (table_same (width_of op) (λ b. x (k / width_of op * width_of op + b)) (λ b. x' (k / width_of op * width_of op + b))
    (λ b lb. h _ (whole b lb)))
    (table_same (width_of op) (λ b. y (k / width_of op * width_of op + b)) (λ b. y' (k / width_of op * width_of op + b))
    (λ b lb. g _ (whole b lb)))

-- the value of a cell after an array was gathered into it
gather_value : (m : Mode) (op : Op) (n : ℕ) (from to : ℕ → Spot) (s : State) (k : ℕ) → m ≡ Reduced op → k < n
    → ((j : ℕ) → j < n → to j ≡ to k → j ≡ k) → (run (give_back m false n from to) s).mem (to k)
    ≡ summed op (λ j. s (to j)) (λ j. s (from j)) k
gather_value m op n from to s k e lt h
    = subst (λ x. (run (give_back x false n from to) s).mem (to k) ≡ summed op (λ j. s (to j)) (λ j. s (from j)) k)
    (sym e) (put_in n to (summed op (λ j. s (to j)) (λ j. s (from j))) s k lt h)

pub come_back_out : (n : ℕ) (arrays : ℕ → Array) (s x : State) (l : Spot)
    → ((i k : ℕ) → i < n → k < (arrays i).size → returned (arrays i).mode ≡ true → (arrays i).block k ≡ l → ⊥)
    → come_back n arrays s x l ≡ x l
come_back_out zero arrays s x l h = refl
come_back_out (suc n) arrays s x l h = one (returned (arrays n).mode) refl
    ∙ come_back_out n arrays s x l (λ i k li lk r e. h i k (omega arith) lk r e)
  where
    one : (b : Bool) → returned (arrays n).mode ≡ b
        → put_if (returned (arrays n).mode) (arrays n).size (arrays n).block (λ k. s (spot n k))
        (come_back n arrays s x) l ≡ come_back n arrays s x l
    one true e = rw e (put_out (arrays n).size (arrays n).block (λ k. s (spot n k)) (come_back n arrays s x) l
        (λ k lk f. h n k (omega arith) lk e f))
    one false e = rw e refl

pub come_back_in : (n : ℕ) (arrays : ℕ → Array) (s x : State) (i k : ℕ) → i < n → k < (arrays i).size
    → returned (arrays i).mode ≡ true
    → ((k' : ℕ) → k' < (arrays i).size → (arrays i).block k' ≡ (arrays i).block k → k' ≡ k)
    → ((j k' : ℕ) → j < n → j ≢ i → k' < (arrays j).size → returned (arrays j).mode ≡ true → (arrays j).block k'
    ≡ (arrays i).block k → ⊥) → come_back n arrays s x ((arrays i).block k) ≡ s (spot i k)
come_back_in zero arrays s x i k li lk r one alone = absurd (omega arith)
come_back_in (suc n) arrays s x i k li lk r one alone
    = ⊎_elim last (λ l. other l (come_back_in n arrays s x i k l lk r one (λ j k' lj. alone j k' (omega arith))))
    (end_or_below i n li)
  where
    here : put_if (returned (arrays i).mode) (arrays i).size (arrays i).block (λ k. s (spot i k))
        (come_back n arrays s x) ((arrays i).block k) ≡ s (spot i k)
    here = rw r (put_in (arrays i).size (arrays i).block (λ k. s (spot i k)) (come_back n arrays s x) k lk one)

    last : i ≡ n → come_back (suc n) arrays s x ((arrays i).block k) ≡ s (spot i k)
    last e = subst (λ j. put_if (returned (arrays j).mode) (arrays j).size (arrays j).block (λ k. s (spot j k))
        (come_back n arrays s x) ((arrays i).block k) ≡ s (spot i k)) e here

    apart : i < n → n ≢ i
    apart l e = absurd (never l e)
      where
        never : i < n → n ≡ i → ⊥
        never l e = omega arith

    other : i < n → come_back n arrays s x ((arrays i).block k) ≡ s (spot i k)
        → come_back (suc n) arrays s x ((arrays i).block k) ≡ s (spot i k)
    other l e = go (returned (arrays n).mode) refl ∙ e
      where
        go : (b : Bool) → returned (arrays n).mode ≡ b
            → put_if (returned (arrays n).mode) (arrays n).size (arrays n).block (λ k. s (spot n k))
            (come_back n arrays s x) ((arrays i).block k) ≡ come_back n arrays s x ((arrays i).block k)
        go true f = rw f (put_out (arrays n).size (arrays n).block (λ k. s (spot n k)) (come_back n arrays s x)
            ((arrays i).block k) (λ k' lk' g. alone n k' (omega arith) (apart l) lk' f g))
        go false f = rw f refl

module _ (form : Form) (n : ℕ) (lower : Bool) (arrays : ℕ → Array) (w : Work) (node : Node) (kid : ℕ) (at : Layout)
    (R : Spot → Spot → Type 0) (fits : CallFits n arrays w (node_of lower node kid))
    (placed : CallPlaced (node_of lower node kid) form n arrays w)
    (meets : Meets R (Call form lower n arrays w) node kid at) where
  abbrev pub to : Layout
  to = inner form n lower arrays w node kid at fits

  abbrev pub src : Layout
  src = from form n lower arrays w node kid at fits

  pub to_src : (l : Spot) → stays (arrays l.area).place ≡ true → to l ≡ src l
  to_src l e = same_place form n lower arrays w node kid at fits l e

  pub to_own : (l : Spot) → (arrays l.area).place ≡ Buffer → to l ≡ own (node_of lower node kid) form l
  to_own l e = inner_buffer form n lower arrays w node kid at fits l e

  pub src_at : (l : Spot) → (arrays l.area).place ≡ Buffer → src l ≡ at ((arrays l.area).block l.index)
  src_at l e = from_buffer form n lower arrays w node kid at fits l e

  pub public : (l : Spot) → l.area < n → stays (arrays l.area).place ≡ true → is_private (arrays l.area).mode ≡ false
  public l lt b = stays_public form n lower arrays w node kid at fits l lt b

  pub sets_block : (l : Spot) → IsIn n arrays l → returned (arrays l.area).mode ≡ true
      → Sets (Call form lower n arrays w) node kid at ((arrays l.area).block l.index) (src l)
  sets_block l i r = (l, i, r, refl, refl)

  -- the place of a parameter's element is held by the caller
  pub has_block : (l : Spot) → IsIn n arrays l → is_private (arrays l.area).mode ≡ false
      → R ((arrays l.area).block l.index) (src l)
      ⊎ Sets (Call form lower n arrays w) node kid at ((arrays l.area).block l.index) (src l)
  has_block l i ne = ⊎_elim (λ r. inl (meets.cover _ _ (l, i, r, refl, refl))) (λ r. inr (sets_block l i r))
      (reads_or_returned (arrays l.area).mode ne)

  -- a buffer's cell is none of the caller's
  pub own_apart : (l x p : Spot) → IsIn n arrays l → (arrays l.area).place ≡ Buffer → R x p
      ⊎ Sets (Call form lower n arrays w) node kid at x p → to l ≡ p → ⊥
  own_apart l x p i b h e = meets.apart x p h (inl (l, i, b, sym (to_own l b) ∙ e))

  pub blocks_alias : (i j k k' : ℕ) → i < n → j < n → k < (arrays i).size → k' < (arrays j).size
      → stays (arrays i).place ≡ true → (arrays j).mode ≢ Local → returned (arrays i).mode ≡ true → (arrays i).block k
      ≡ (arrays j).block k' → spot i k ≡ spot j k'
  blocks_alias i j k k' li lj lk lk' b ne r e =
      go (eqb i j) refl
    where
      go : (x : Bool) → eqb i j ≡ x → spot i k ≡ spot j k'
      go false q = absurd (fits.apart i j k k' li lj (λ z. let y = eq-eqb i j z in cc) lk lk' b ne (inl r) e)
      go true q =
          let z : i ≡ j = eqb-true i j q in
          let lk'' : k' < (arrays i).size = subst (λ x. k' < (arrays x).size) (sym z) lk' in
          let e' : (arrays i).block k ≡ (arrays i).block k'
          = subst (λ x. (arrays i).block k ≡ (arrays x).block k') (sym z) e in
          spot_path (spot i k) (spot j k') z (fits.distinct i k k' li lk lk'' e')

  -- a cell that may be written has one name
  pub alias : (l l' : Spot) → IsIn n arrays l → IsIn n arrays l'
      → Brought (arrays l.area).mode (stays (arrays l.area).place) → to l ≡ to l' → l ≡ l'
  alias l l' i i' may e = go (place_cases (arrays l.area).place) (place_cases (arrays l'.area).place) may
    where
      buffer_in : (a : Place) → a ≡ Buffer → in_place a ≡ false
      buffer_in Buffer f = refl
      buffer_in InPlace f = cc
      buffer_in Held f = refl

      go : ((arrays l.area).place ≡ Buffer) ⊎ (stays (arrays l.area).place ≡ true) → ((arrays l'.area).place ≡ Buffer)
          ⊎ (stays (arrays l'.area).place ≡ true) → Brought (arrays l.area).mode (stays (arrays l.area).place) → l ≡ l'
      go (inl b) (inl b') may = placed.separate l l' i i' (buffer_in _ b) (buffer_in _ b')
          (sym (to_own l b) ∙ e ∙ to_own l' b')
      go (inl b) (inr b') may = absurd
          (own_apart l _ (src l') i b (has_block l' i' (public l' i'.0 b')) (e ∙ to_src l' b'))
      go (inr b) (inl b') may = absurd
          (own_apart l' _ (src l) i' b' (has_block l i (public l i.0 b)) (sym e ∙ to_src l b))
      go (inr b) (inr b') (inl f) = absurd (cc)
      go (inr b) (inr b') (inr r) =
          blocks_alias l.area l'.area l.index l'.index i.0 i'.0 i.1 i'.1 b
          (private_not_local (arrays l'.area).mode (public l' i'.0 b')) r
          (meets.clear _ _ (src l) (sets_block l i r)
          (subst (λ p. R ((arrays l'.area).block l'.index) p
          ⊎ Sets (Call form lower n arrays w) node kid at ((arrays l'.area).block l'.index) p)
          (sym (to_src l' b') ∙ sym e ∙ to_src l b) (has_block l' i' (public l' i'.0 b'))))

  abbrev pub one_in : ℕ → Tree
  one_in i = bring (arrays i).mode (stays (arrays i).place) (arrays i).size (λ k. at ((arrays i).block k))
      (λ k. to (spot i k))

  abbrev pub one_clear : ℕ → Tree
  one_clear i = clear (arrays i).mode (arrays i).size (λ k. to (spot i k))

  abbrev pub one_back : ℕ → Tree
  one_back i = give_back (arrays i).mode (stays (arrays i).place) (arrays i).size (λ k. to (spot i k))
      (λ k. at ((arrays i).block k))

  others : (l : Spot) (j k : ℕ) → spot j k ≡ l → l.area ≢ j → ⊥
  others l j k e ne = ne (sym (ap (λ q. q.area) e))

  in_frame : (j : ℕ) → j < n → (m : State) (l : Spot) → IsIn n arrays l → l.area ≢ j → (run (one_in j) m).mem (to l)
      ≡ m (to l)
  in_frame j lt m l i ne = run_frame (one_in j) m (to l)
      (λ h. let b = bring_writes (arrays j).mode (stays (arrays j).place) (arrays j).size _ _ (to l) h in others l j b.0
      (alias (spot j b.0) l (lt, b.1) i b.3 b.2) ne)

  in_frame_src : (j : ℕ) → j < n → (m : State) (l : Spot) → IsIn n arrays l → l.area ≢ j → reads (arrays l.area).mode
      ≡ true → (run (one_in j) m).mem (src l) ≡ m (src l)
  in_frame_src j lt m l i ne rd = run_frame (one_in j) m (src l)
      (λ h. let b = bring_writes (arrays j).mode (stays (arrays j).place) (arrays j).size _ _ _ h in go b.0 b.1 b.2 b.3
      (place_cases (arrays j).place))
    where
      mine : R ((arrays l.area).block l.index) (src l)
      mine = meets.cover _ _ (l, i, rd, refl, refl)

      go : (k : ℕ) → k < (arrays j).size → to (spot j k) ≡ src l → Brought (arrays j).mode (stays (arrays j).place)
          → ((arrays j).place ≡ Buffer) ⊎ (stays (arrays j).place ≡ true) → ⊥
      go k lk e may (inl b) = own_apart (spot j k) _ (src l) (lt, lk) b (inl mine) e
      go k lk e (inl f) (inr t) = cc
      go k lk e (inr r) (inr t) =
          ne (sym (ap (λ q. q.area) (blocks_alias j l.area k l.index lt i.0 lk i.1 t
          (reads_not_local (arrays l.area).mode rd) r
          (meets.clear _ _ (src l) (subst (λ p. Sets (Call form lower n arrays w) node kid at ((arrays j).block k) p)
          (sym (to_src (spot j k) t) ∙ e) (sets_block (spot j k) (lt, lk) r)) (inl mine)))))

  -- the callee's layout serves the callee on all of its arrays
  abbrev pub Inside : Spot → Spot → Type 0
  Inside l p = IsIn n arrays l × (to l ≡ p)

  pub inner_meets : Meets Inside w (node_of lower node kid) 0 to
  inner_meets = record {
    cover = λ l p h. fits.inside to l p (inl h);
    one = λ l p p' h h'. sym (fits.inside to l p (inr h)).1
        ∙ ⊎_elim (λ g. g.1) (λ g. (fits.inside to l p' (inr g)).1) h';
    clear = λ l l' p h h'. let g = fits.inside to l p (inr h) in let g' : Inside l' p
        = ⊎_elim (λ g. g) (λ g. fits.inside to l' p (inr g)) h' in alias l l' g.0 g'.0
        (may l p h g.0 (place_cases (arrays l.area).place)) (g.1 ∙ sym g'.1);
    apart = λ l p h x. let g : Inside l p
        = ⊎_elim (λ g. g) (λ g. fits.inside to l p (inr g)) h in below l g.0
        (subst (Scratch w (node_of lower node kid) 0) (sym g.1) x) (place_cases (arrays l.area).place);
    aside = λ l l' p h x. fits.closed to l' p x;
    sums = λ l l' p h h'. absurd (fits.closed to l p h);
    sum_apart = λ l p h x. fits.closed to l p h;
  }
    where
      may : (l p : Spot) → Sets w (node_of lower node kid) 0 to l p → IsIn n arrays l → ((arrays l.area).place ≡ Buffer)
          ⊎ (stays (arrays l.area).place ≡ true) → Brought (arrays l.area).mode (stays (arrays l.area).place)
      may l p h i (inl b) = inl (ap stays b)
      may l p h i (inr b) = inr (returned_from (arrays l.area).mode (fits.permitted to l p h) (public l i.0 b))

      below : (l : Spot) → IsIn n arrays l → Scratch w (node_of lower node kid) 0 (to l)
          → ((arrays l.area).place ≡ Buffer) ⊎ (stays (arrays l.area).place ≡ true) → ⊥
      below l i h (inl b) = placed.below l i (ap in_place b)
          (subst (Scratch w (node_of lower node kid) 0) (to_own l b) h)
      below l i h (inr b) = meets.apart _ _ (has_block l i (public l i.0 b))
          (inr (subst (Scratch w (node_of lower node kid) 0) (to_src l b) h))

  module _ (s : State) where
    record Came (j : ℕ) (m : State) : Type 0 where
      settled : (l : Spot) → IsIn n arrays l → l.area < j → (arrays l.area).mode ≢ Local → m (to l)
          ≡ entry_of arrays s l
      waiting : (l : Spot) → IsIn n arrays l → j ≤ l.area → reads (arrays l.area).mode ≡ true → m (src l)
          ≡ s ((arrays l.area).block l.index)

    came : (j : ℕ) → j ≤ n → (m : State) → ((l p : Spot) → R l p → m p ≡ s l) → Came j (run (beside j one_in) m).mem
    came zero le m agree = record {
      settled = λ l i lt ne. absurd (omega arith);
      waiting = λ l i lt rd. agree _ _
          (meets.cover _ _ (l, i, rd, refl, refl));
    }
    came (suc j) le m agree = next j (omega arith) (run (beside j one_in) m).mem (came j (omega arith) m agree)
      where
        next : (j : ℕ) → j < n → (m1 : State) → Came j m1 → Came (suc j) (run (one_in j) m1).mem
        next j lt m1 c = record {
          settled = λ l i la ne. ⊎_elim (λ e. here l i ne e)
              (λ la'. in_frame j lt m1 l i (λ e. never l e la') ∙ c.settled l i la' ne) (end_or_below l.area j la);
          waiting = λ l i le' rd. in_frame_src j lt m1 l i (λ e. past l e le') rd ∙ c.waiting l i (omega arith) rd;
        }
          where
            never : (l : Spot) → l.area ≡ j → l.area < j → ⊥
            never l e h = omega arith

            past : (l : Spot) → l.area ≡ j → suc j ≤ l.area → ⊥
            past l e h = omega arith

            here : (l : Spot) → IsIn n arrays l → (arrays l.area).mode ≢ Local → l.area ≡ j
                → (run (one_in j) m1).mem (to l) ≡ entry_of arrays s l
            here l i ne e =
                subst (λ x. (run (one_in x) m1).mem (to l) ≡ entry_of arrays s l) e
                (bring_value (arrays l.area).mode (stays (arrays l.area).place) (arrays l.area).size
                (λ k. at ((arrays l.area).block k)) (λ k. to (spot l.area k)) m1 l.index
                (s ((arrays l.area).block l.index)) i.1 ne (λ pr. ap stays (fits.private_own l.area i.0 pr))
                (λ rd b. ap m1 (to_src l b) ∙ c.waiting l i (omega arith) rd)
                (λ rd b. ap m1 (sym (src_at l (buffer_from (arrays l.area).place b))) ∙ c.waiting l i (omega arith) rd)
                (λ may k lk f. ap (λ q. q.index) (alias (spot l.area k) l (i.0, lk) i may f)))

    pub record Clear (j : ℕ) (m : State) : Type 0 where
      pub params : (l : Spot) → IsIn n arrays l → (arrays l.area).mode ≢ Local → m (to l) ≡ entry_of arrays s l
      pub locals : (l : Spot) → IsIn n arrays l → l.area < j → (arrays l.area).mode ≡ Local → m (to l)
          ≡ entry_of arrays s l

    pub local_brought : (j : ℕ) → j < n → (arrays j).mode ≡ Local → Brought (arrays j).mode (stays (arrays j).place)
    local_brought j lt e = inl (ap stays (fits.private_own j lt (private_true (arrays j).mode (inl e))))

    clear_frame : (j : ℕ) → j < n → (m : State) (l : Spot) → IsIn n arrays l → (l.area ≢ j)
        ⊎ ((arrays l.area).mode ≢ Local) → (run (one_clear j) m).mem (to l) ≡ m (to l)
    clear_frame j lt m l i ne = run_frame (one_clear j) m (to l)
        (λ h. let b = clear_writes (arrays j).mode (arrays j).size _ (to l) h in let z
        = alias (spot j b.0) l (lt, b.1) i (local_brought j lt b.3) b.2 in ⊎_elim (λ f. others l j b.0 z f)
        (λ f. f (subst (λ q. (arrays q.area).mode ≡ Local) z b.3)) ne)

    pub cleared : (j : ℕ) → j ≤ n → (m : State) → Clear 0 m → Clear j (run (beside j one_clear) m).mem
    cleared zero le m c = c
    cleared (suc j) le m c = next j (omega arith) (run (beside j one_clear) m).mem (cleared j (omega arith) m c)
      where
        next : (j : ℕ) → j < n → (m1 : State) → Clear j m1 → Clear (suc j) (run (one_clear j) m1).mem
        next j lt m1 c = record {
          params = λ l i ne. clear_frame j lt m1 l i (inr ne) ∙ c.params l i ne;
          locals = λ l i la lo. ⊎_elim (λ e. here l i lo e)
              (λ la'. clear_frame j lt m1 l i (inl (λ e. never l e la')) ∙ c.locals l i la' lo)
              (end_or_below l.area j la);
        }
          where
            never : (l : Spot) → l.area ≡ j → l.area < j → ⊥
            never l e h = omega arith

            here : (l : Spot) → IsIn n arrays l → (arrays l.area).mode ≡ Local → l.area ≡ j
                → (run (one_clear j) m1).mem (to l) ≡ entry_of arrays s l
            here l i lo e =
                subst (λ x. (run (one_clear x) m1).mem (to l) ≡ entry_of arrays s l) e
                (clear_value (arrays l.area).mode (arrays l.area).size (λ k. to (spot l.area k)) m1 l.index i.1 lo
                (λ k lk f. ap (λ q. q.index) (alias (spot l.area k) l (i.0, lk) i (local_brought l.area i.0 lo) f))
                ∙ sym (ap (λ x. start_of x l.index (s ((arrays l.area).block l.index))) lo))

    entered : (m : State) → ((l p : Spot) → R l p → m p ≡ s l) → (l : Spot) → IsIn n arrays l
        → (run (beside n one_clear) (run (beside n one_in) m).mem).mem (to l) ≡ entry_of arrays s l
    entered m agree l i =
        let c = came n (omega arith) m agree in
        let d = cleared n (omega arith) _
        (record { params = λ l i ne. c.settled l i i.0 ne; locals = λ l i la lo. absurd (omega arith) }) in
        ⊎_elim (λ lo. d.locals l i i.0 lo) (λ ne. d.params l i ne) (local_cases (arrays l.area).mode)

    abbrev Held' : Spot → Spot → Type 0
    Held' l p = R l p ⊎ Sets (Call form lower n arrays w) node kid at l p

    -- an element of the caller, at its place
    pub record Back (after : State) (j : ℕ) (m : State) : Type 0 where
      pub given : (i k : ℕ) → i < n → k < (arrays i).size → returned (arrays i).mode ≡ true → (i < j)
          ⊎ (stays (arrays i).place ≡ true) → m (src (spot i k)) ≡ after (spot i k)
      pub other : (l p : Spot) → R l p
          → ((i k : ℕ) → i < n → k < (arrays i).size → returned (arrays i).mode ≡ true → (arrays i).block k ≡ l → ⊥)
          → m p ≡ s l
      pub kept : (l : Spot) → IsIn n arrays l → (arrays l.area).place ≡ Buffer → m (to l) ≡ after l

    -- what an array that goes back writes
    pub back_at : (j k : ℕ) → j < n → k < (arrays j).size → returned (arrays j).mode ≡ true → stays (arrays j).place
        ≡ false → Sets (Call form lower n arrays w) node kid at ((arrays j).block k) (at ((arrays j).block k))
    back_at j k lj lk r b = (spot j k, (lj, lk), r, refl, src_at (spot j k) (buffer_from (arrays j).place b))

    pub back_gathers : (j k : ℕ) → j < n → k < (arrays j).size → is_reduced (arrays j).mode ≡ true
        → Gathers (Call form lower n arrays w) node kid at ((arrays j).block k) (at ((arrays j).block k))
    back_gathers j k lj lk r = (spot j k, (lj, lk), r, refl, refl)

    -- what goes back into is no other place of the caller
    not_back : (j k : ℕ) → j < n → k < (arrays j).size → (returned (arrays j).mode ≡ true)
        ⊎ (is_reduced (arrays j).mode ≡ true) → stays (arrays j).place ≡ false → (l p : Spot) → at ((arrays j).block k)
        ≡ p → Held' l p → ((arrays j).block k ≡ l → returned (arrays j).mode ≡ true → ⊥) → ⊥
    not_back j k lj lk (inl r) b l p e h bad
        = bad (meets.clear _ l p (subst (λ q. Sets (Call form lower n arrays w) node kid at ((arrays j).block k) q) e
        (back_at j k lj lk r b)) h) r
    not_back j k lj lk (inr r) b l p e h bad
        = meets.aside l ((arrays j).block k) p h
        (subst (λ q. Gathers (Call form lower n arrays w) node kid at ((arrays j).block k) q) e
        (back_gathers j k lj lk r))

    pub not_buffer : (j k : ℕ) → j < n → k < (arrays j).size → (returned (arrays j).mode ≡ true)
        ⊎ (is_reduced (arrays j).mode ≡ true) → stays (arrays j).place ≡ false → (l : Spot) → IsIn n arrays l
        → (arrays l.area).place ≡ Buffer → at ((arrays j).block k) ≡ to l → ⊥
    not_buffer j k lj lk (inl r) b l i c e = own_apart l _ _ i c (inr (back_at j k lj lk r b)) (sym e)
    not_buffer j k lj lk (inr r) b l i c e
        = meets.sum_apart ((arrays j).block k) (at ((arrays j).block k)) (back_gathers j k lj lk r)
        (inl (l, i, c, sym (to_own l c) ∙ sym e))

    back_step : (after : State) (j : ℕ) → j < n → (m : State) → Back after j m
        → Back after (suc j) (run (one_back j) m).mem
    back_step after j lt m c = record {
      given = λ i k li lk r h. given i k li lk r h (eqb i j) refl;
      other = λ l p h alone. run_frame (one_back j) m p
          (λ x. let g = give_writes (arrays j).mode (stays (arrays j).place) (arrays j).size _ _ p x in not_back j g.0
          lt g.1 g.3 g.4 l p g.2 (inl h) (λ e r. alone j g.0 lt g.1 r e)) ∙ c.other l p h alone;
      kept = λ l i b. run_frame (one_back j) m (to l)
          (λ x. let g = give_writes (arrays j).mode (stays (arrays j).place) (arrays j).size _ _ (to l) x in not_buffer
          j g.0 lt g.1 g.3 g.4 l i b g.2) ∙ c.kept l i b;
    }
      where
        given : (i k : ℕ) → i < n → k < (arrays i).size → returned (arrays i).mode ≡ true → (i < suc j)
            ⊎ (stays (arrays i).place ≡ true) → (b : Bool) → eqb i j ≡ b → (run (one_back j) m).mem (src (spot i k))
            ≡ after (spot i k)
        given i k li lk r h false e =
            run_frame (one_back j) m (src (spot i k))
            (λ x. let g = give_writes (arrays j).mode (stays (arrays j).place) (arrays j).size _ _ (src (spot i k))
            x in not_back j g.0 lt g.1 g.3 g.4 ((arrays i).block k) (src (spot i k)) g.2
            (inr (sets_block (spot i k) (li, lk) r))
            (λ f r'. fits.no_alias j i g.0 k lt li (λ z. let y = eq-eqb i j (sym z) in cc) g.1 lk r' r f))
            ∙ c.given i k li lk r (⊎_elim
            (λ l. ⊎_elim (λ z. absurd (let y = eq-eqb i j z in cc)) (λ l'. inl l') (end_or_below i j l)) (λ t. inr t) h)
        given i k li lk r h true e = go (place_cases (arrays i).place)
          where
            eq : i ≡ j
            eq = eqb-true i j e

            go : ((arrays i).place ≡ Buffer) ⊎ (stays (arrays i).place ≡ true)
                → (run (one_back j) m).mem (src (spot i k)) ≡ after (spot i k)
            go (inr t) =
                subst (λ x. (run (one_back x) m).mem (src (spot i k)) ≡ after (spot i k)) eq
                (run_frame (one_back i) m (src (spot i k))
                (λ x. let g = give_writes (arrays i).mode (stays (arrays i).place) (arrays i).size _ _ (src (spot i k))
                x in cc) ∙ c.given i k li lk r (inr t))
            go (inl b) =
                subst (λ x. (run (one_back x) m).mem (src (spot i k)) ≡ after (spot i k)) eq
                (ap (run (one_back i) m).mem (src_at (spot i k) b)
                ∙ subst (λ x. (run (give_back (arrays i).mode x (arrays i).size (λ k. to (spot i k))
                (λ k. at ((arrays i).block k))) m).mem (at ((arrays i).block k)) ≡ m (to (spot i k))) (sym (ap stays b))
                (give_value (arrays i).mode (arrays i).size (λ k. to (spot i k)) (λ k. at ((arrays i).block k)) m k r lk
                (λ k' lk' f. fits.distinct i k' k li lk' lk
                (meets.clear _ _ _ (back_at i k' li lk' r (ap stays b))
                (inr (subst (λ q. Sets (Call form lower n arrays w) node kid at ((arrays i).block k) q) (sym f)
                (back_at i k li lk r (ap stays b)))))))
                ∙ c.kept (spot i k) (li, lk) b)

    pub gone_back : (after : State) (j : ℕ) → j ≤ n → (m3 : State) → Back after 0 m3
        → Back after j (run (beside j one_back) m3).mem
    gone_back after zero le m3 b = b
    gone_back after (suc j) le m3 b
        = back_step after j (omega arith) (run (beside j one_back) m3).mem (gone_back after j (omega arith) m3 b)

    -- the caller's elements after the call
    pub all_back : (after m : State) → Back after n m → (l p : Spot) → Held' l p → m p ≡ come_back n arrays after s l
    all_back after m b l p h = go (any_block n arrays l) refl
      where
        go : (x : Bool) → any_block n arrays l ≡ x → m p ≡ come_back n arrays after s l
        go true e =
            let g = block_true n arrays l e in
            let one = meets.one l (src (spot g.0 g.1)) p
            (subst (λ q. Sets (Call form lower n arrays w) node kid at q (src (spot g.0 g.1))) g.5
            (sets_block (spot g.0 g.1) (g.2, g.3) g.4)) h in
            ap m (sym one) ∙ b.given g.0 g.1 g.2 g.3 g.4 (inl g.2)
            ∙ sym (come_back_in n arrays after s g.0 g.1 g.2 g.3 g.4
            (λ k' lk' f. fits.distinct g.0 k' g.1 g.2 lk' g.3 f)
            (λ j k' lj ne lk' r f. fits.no_alias j g.0 k' g.1 lj g.2 ne lk' g.3 r g.4 f))
            ∙ ap (come_back n arrays after s) g.5
        go false e =
            ⊎_elim
            (λ r. b.other l p r alone)
            (λ r. absurd (alone r.0.area r.0.index r.1.0 r.1.1 r.2 r.3)) h
            ∙ sym (come_back_out n arrays after s l alone)
          where
            alone : (i k : ℕ) → i < n → k < (arrays i).size → returned (arrays i).mode ≡ true → (arrays i).block k ≡ l
                → ⊥
            alone i k li lk r f = let z = block_from n arrays l i k li lk r f in cc

    pub call_follows : (path : List ℕ) (body : Tree)
        → ((p : Spot) → Writes body p → Changes w (node_of lower node kid) 0 to p)
        → ((s' m' : State) → ((l p : Spot) → Inside l p → m' p ≡ s' l)
        → Follows (λ l p. Inside l p ⊎ Sets w (node_of lower node kid) 0 to l p) path (meaning w s') (run body m'))
        → (m : State) → ((l p : Spot) → R l p → m p ≡ s l)
        → Follows Held' path (returns_to (meaning w (entry_of arrays s)) n arrays s)
        (run (call_tree n arrays at to body) m)
    call_follows path body foot ih m agree =
        subst (Follows Held' path (returns_to (meaning w (entry_of arrays s)) n arrays s)) (sym whole)
        (end (meaning w (entry_of arrays s))
        (ih (entry_of arrays s) m2 (λ l p h. ap m2 (sym h.1) ∙ entered m agree l h.0)))
      where
        m1 : State
        m1 = (run (beside n one_in) m).mem

        m2 : State
        m2 = (run (beside n one_clear) (run (beside n one_in) m).mem).mem

        in_none : (run (beside n one_in) m).trap ≡ None
        in_none = beside_none n one_in
            (λ i lt m'. bring_none (arrays i).mode (stays (arrays i).place) (arrays i).size _ _ m') m

        clear_is_none : (run (beside n one_clear) (run (beside n one_in) m).mem).trap ≡ None
        clear_is_none = beside_none n one_clear (λ i lt m'. clear_none (arrays i).mode (arrays i).size _ m') _

        whole : run (call_tree n arrays at to body) m
            ≡ go_on (run body m2).trap (run body m2).mem (run (beside n one_back))
        whole =
            seq_run (beside n one_in) (Seq (Seq (beside n one_clear) body) (beside n one_back)) m in_none
            ∙ ap (λ r. go_on r.trap r.mem (run (beside n one_back)))
            (seq_run (beside n one_clear) body m1 clear_is_none)

        -- an element that no returned block has
        untouched : (l p : Spot) → R l p
            → ((i k : ℕ) → i < n → k < (arrays i).size → returned (arrays i).mode ≡ true → (arrays i).block k ≡ l → ⊥)
            → (run body m2).mem p ≡ s l
        untouched l p r alone =
            run_frame body m2 p (λ h. bar (inr (inl (inr h))))
            ∙ run_frame (beside n one_clear) m1 p (λ h. bar (inr (inl (inl h))))
            ∙ run_frame (beside n one_in) m p (λ h. bar (inl h))
            ∙ agree l p r
          where
            bar : Writes (call_tree n arrays at to body) p → ⊥
            bar h = ⊎_elim (λ g. let q = g.1.0 in alone q.area q.index g.1.1.0 g.1.1.1 g.1.2
                (g.1.3 ∙ meets.clear g.0 l p g.1 (inl r)))
                (λ g. ⊎_elim (λ x. meets.aside l x.0 p (inl r) x.1) (λ x. meets.apart l p (inl r) x) g)
                (call_writes form n lower arrays w node kid at fits body foot p h)

        end : (o : Outcome) → Follows (λ l p. Inside l p ⊎ Sets w (node_of lower node kid) 0 to l p) path o
            (run body m2) → Follows Held' path (returns_to o n arrays s)
            (go_on (run body m2).trap (run body m2).mem (run (beside n one_back)))
        end (Traps x) f = ap (λ o. (go_on o (run body m2).mem (run (beside n one_back))).trap) f
        end (Ends after) f =
            let b : Back after 0 (run body m2).mem = record {
              given = λ i k li lk r h. ⊎_elim (λ z. absurd (omega arith))
                  (λ t. ap (run body m2).mem (sym (to_src (spot i k) t))
                  ∙ f.1 (spot i k) (to (spot i k)) (inl ((li, lk), refl))) h;
              other = untouched;
              kept = λ l i b. f.1 l (to l) (inl (i, refl));
            } in
            let p : go_on (run body m2).trap (run body m2).mem (run (beside n one_back))
            ≡ run (beside n one_back) (run body m2).mem
            = ap (λ o. go_on o (run body m2).mem (run (beside n one_back))) f.0 in
            subst (Follows Held' path (Ends (come_back n arrays after s))) (sym p) (
              beside_none n one_back (λ i lt m'. give_none (arrays i).mode (stays (arrays i).place) (arrays i).size _ _
                  m') (run body m2).mem,
              all_back after (run (beside n one_back) (run body m2).mem).mem
                  (gone_back after n (omega arith) (run body m2).mem b),
            )

    record Sums (op : Op) (i : ℕ) (after m3 : State) (j : ℕ) (m : State) : Type 0 where
      waits : (k : ℕ) → k < (arrays i).size → j ≤ i → m (at ((arrays i).block k)) ≡ m3 (at ((arrays i).block k))
      added : (k : ℕ) → k < (arrays i).size → i < j → m (at ((arrays i).block k))
          ≡ summed op (λ j. m3 (at ((arrays i).block j))) (λ j. after (spot i j)) k
      buffer : (k : ℕ) → k < (arrays i).size → m (to (spot i k)) ≡ after (spot i k)

    module _ (op : Op) (i : ℕ) (li : i < n) (mode : (arrays i).mode ≡ Reduced op)
        (only : (j : ℕ) → j < n → is_reduced (arrays j).mode ≡ true → j ≡ i)
        (all_whole : (k b : ℕ) → k < (arrays i).size → b < width_of op → k / width_of op * width_of op + b
        < (arrays i).size) where
      reduced : is_reduced (arrays i).mode ≡ true
      reduced = ap is_reduced mode

      place : (arrays i).place ≡ Buffer
      place = fits.private_own i li (ap is_private mode)

      gathers : (k : ℕ) → k < (arrays i).size
          → Gathers (Call form lower n arrays w) node kid at ((arrays i).block k) (at ((arrays i).block k))
      gathers k lk = back_gathers i k li lk reduced

      one_cell : (k k' : ℕ) → k < (arrays i).size → k' < (arrays i).size → at ((arrays i).block k')
          ≡ at ((arrays i).block k) → k' ≡ k
      one_cell k k' lk lk' e = fits.distinct i k' k li lk' lk
          (meets.sums _ _ (at ((arrays i).block k))
          (subst (λ q. Gathers (Call form lower n arrays w) node kid at ((arrays i).block k') q) e (gathers k' lk'))
          (gathers k lk))

      sum_step : (after m3 : State) (j : ℕ) → j < n → (m : State) → Sums op i after m3 j m
          → Sums op i after m3 (suc j) (run (one_back j) m).mem
      sum_step after m3 j lt m c = record {
        waits = λ k lk le. frame k lk (λ e. never e le) ∙ c.waits k lk (omega arith);
        added = λ k lk la. ⊎_elim (λ e. here k lk e) (λ la'. frame k lk (λ e. below e la') ∙ c.added k lk la')
            (end_or_below i j la);
        buffer = λ k lk. run_frame (one_back j) m (to (spot i k))
            (λ x. let g = give_writes (arrays j).mode (stays (arrays j).place) (arrays j).size _ _ (to (spot i k)) x in
            not_buffer j g.0 lt g.1 g.3 g.4 (spot i k) (li, lk) place g.2) ∙ c.buffer k lk;
      }
        where
          never : i ≡ j → suc j ≤ i → ⊥
          never e le = omega arith

          below : i ≡ j → i < j → ⊥
          below e la = omega arith

          frame : (k : ℕ) → k < (arrays i).size → (i ≡ j → ⊥) → (run (one_back j) m).mem (at ((arrays i).block k))
              ≡ m (at ((arrays i).block k))
          frame k lk ne = run_frame (one_back j) m (at ((arrays i).block k))
              (λ x. let g = give_writes (arrays j).mode (stays (arrays j).place) (arrays j).size _ _
              (at ((arrays i).block k)) x in ⊎_elim
              (λ r. meets.aside ((arrays j).block g.0) ((arrays i).block k) (at ((arrays i).block k))
              (inr (subst (λ q. Sets (Call form lower n arrays w) node kid at ((arrays j).block g.0) q) g.2
              (back_at j g.0 lt g.1 r g.4))) (gathers k lk)) (λ r. ne (sym (only j lt r))) g.3)

          here : (k : ℕ) → k < (arrays i).size → i ≡ j → (run (one_back j) m).mem (at ((arrays i).block k))
              ≡ summed op (λ j. m3 (at ((arrays i).block j))) (λ j. after (spot i j)) k
          here k lk e =
              subst (λ x. (run (one_back x) m).mem (at ((arrays i).block k))
              ≡ summed op (λ j. m3 (at ((arrays i).block j))) (λ j. after (spot i j)) k) e
              (subst (λ b. (run (give_back (arrays i).mode b (arrays i).size (λ k. to (spot i k))
              (λ k. at ((arrays i).block k))) m).mem (at ((arrays i).block k))
              ≡ summed op (λ j. m (at ((arrays i).block j))) (λ j. m (to (spot i j))) k) (sym (ap stays place))
              (gather_value (arrays i).mode op (arrays i).size (λ k. to (spot i k)) (λ k. at ((arrays i).block k)) m k
              mode lk (λ k' lk' f. one_cell k k' lk lk' f))
              ∙ summed_same op (arrays i).size _ _ _ _ k (λ b lb. all_whole k b lk lb)
              (λ j lj. c.waits j lj (omega arith)) (λ j lj. c.buffer j lj))

      sums_all : (after m3 : State) (j : ℕ) → j ≤ n → Sums op i after m3 0 m3
          → Sums op i after m3 j (run (beside j one_back) m3).mem
      sums_all after m3 zero le c = c
      sums_all after m3 (suc j) le c = sum_step after m3 j (omega arith) (run (beside j one_back) m3).mem
          (sums_all after m3 j (omega arith) c)

      pub call_gathers : (path : List ℕ) (body : Tree)
          → ((p : Spot) → Writes body p → Changes w (node_of lower node kid) 0 to p)
          → ((s' m' : State) → ((l p : Spot) → Inside l p → m' p ≡ s' l)
          → Follows (λ l p. Inside l p ⊎ Sets w (node_of lower node kid) 0 to l p) path (meaning w s') (run body m'))
          → (m : State) → ((l p : Spot) → R l p → m p ≡ s l) → (run (call_tree n arrays at to body) m).trap ≡ None
          → (k : ℕ) → k < (arrays i).size → (run (call_tree n arrays at to body) m).mem (at ((arrays i).block k))
          ≡ summed op (λ j. m (at ((arrays i).block j))) (λ j. value_at (meaning w (entry_of arrays s)) (spot i j)) k
      call_gathers path body foot ih m agree none k lk =
          ap (λ r. r.mem (at ((arrays i).block k))) whole
          ∙ end (meaning w (entry_of arrays s))
          (ih (entry_of arrays s) m2 (λ l p h. ap m2 (sym h.1) ∙ entered m agree l h.0))
          (ap (λ r. r.trap) (sym whole) ∙ none)
        where
          m1 : State
          m1 = (run (beside n one_in) m).mem

          m2 : State
          m2 = (run (beside n one_clear) (run (beside n one_in) m).mem).mem

          whole : run (call_tree n arrays at to body) m
              ≡ go_on (run body m2).trap (run body m2).mem (run (beside n one_back))
          whole =
              seq_run (beside n one_in) (Seq (Seq (beside n one_clear) body) (beside n one_back)) m
              (beside_none n one_in (λ i lt m'. bring_none (arrays i).mode (stays (arrays i).place) (arrays i).size
              _ _ m') m)
              ∙ ap (λ r. go_on r.trap r.mem (run (beside n one_back)))
              (seq_run (beside n one_clear) body m1
              (beside_none n one_clear (λ i lt m'. clear_none (arrays i).mode (arrays i).size _ m') _))

          untouched : (k : ℕ) → k < (arrays i).size → (run body m2).mem (at ((arrays i).block k))
              ≡ m (at ((arrays i).block k))
          untouched k lk =
              run_frame body m2 _ (λ h. ⊎_elim (λ g. bar_sets g)
              (λ g. ⊎_elim (λ x. fits.closed to x.0 _ x.1) (λ x. meets.sum_apart _ _ (gathers k lk) (inr x)) g)
              (foot _ h))
              ∙ run_frame (beside n one_clear) m1 _
              (λ h. let a = beside_writes n one_clear _ h in let b
              = clear_writes (arrays a.0).mode (arrays a.0).size _ _ a.2 in own_cell (spot a.0 b.0) (a.1, b.1)
              (fits.private_own a.0 a.1 (private_true (arrays a.0).mode (inl b.3))) b.2)
              ∙ run_frame (beside n one_in) m _
              (λ h. let a = beside_writes n one_in _ h in let b
              = bring_writes (arrays a.0).mode (stays (arrays a.0).place) (arrays a.0).size _ _ _ a.2 in brought
              (spot a.0 b.0) (a.1, b.1) b.3 b.2 (place_cases (arrays a.0).place))
            where
              own_cell : (l : Spot) → IsIn n arrays l → (arrays l.area).place ≡ Buffer → to l ≡ at ((arrays i).block k)
                  → ⊥
              own_cell l x b e = meets.sum_apart _ _ (gathers k lk) (inl (l, x, b, sym (to_own l b) ∙ e))

              returned_cell : (l : Spot) → IsIn n arrays l → returned (arrays l.area).mode ≡ true
                  → stays (arrays l.area).place ≡ true → to l ≡ at ((arrays i).block k) → ⊥
              returned_cell l x r b e = meets.aside _ _ (at ((arrays i).block k))
                  (inr (subst (λ q. Sets (Call form lower n arrays w) node kid at ((arrays l.area).block l.index) q)
                  (sym (to_src l b) ∙ e) (sets_block l x r))) (gathers k lk)

              brought : (l : Spot) → IsIn n arrays l → Brought (arrays l.area).mode (stays (arrays l.area).place) → to l
                  ≡ at ((arrays i).block k) → ((arrays l.area).place ≡ Buffer) ⊎ (stays (arrays l.area).place ≡ true)
                  → ⊥
              brought l x may e (inl b) = own_cell l x b e
              brought l x (inl f) e (inr b) = cc
              brought l x (inr r) e (inr b) = returned_cell l x r b e

              bar_sets : ((l : Spot) × Sets w (node_of lower node kid) 0 to l (at ((arrays i).block k))) → ⊥
              bar_sets g =
                  let x = fits.inside to g.0 _ (inr g.1) in
                  ⊎_elim (λ b. own_cell g.0 x.0 b x.1)
                  (λ b. returned_cell g.0 x.0 (returned_from (arrays g.0.area).mode (fits.permitted to g.0 _ g.1)
                  (public g.0 x.0.0 b)) b x.1) (place_cases (arrays g.0.area).place)

          end : (o : Outcome) → Follows (λ l p. Inside l p ⊎ Sets w (node_of lower node kid) 0 to l p) path o
              (run body m2) → (go_on (run body m2).trap (run body m2).mem (run (beside n one_back))).trap ≡ None
              → (go_on (run body m2).trap (run body m2).mem (run (beside n one_back))).mem (at ((arrays i).block k))
              ≡ summed op (λ j. m (at ((arrays i).block j))) (λ j. value_at o (spot i j)) k
          end (Traps x) f e = absurd (let z : Some (under path x) ≡ None = sym
              (ap (λ o. (go_on o (run body m2).mem (run (beside n one_back))).trap) f) ∙ e in cc)
          end (Ends after) f e =
              let c = sums_all after (run body m2).mem n (omega arith) (record {
                waits = λ k lk le. refl;
                added = λ k lk la. absurd (omega arith);
                buffer = λ k lk. f.1 (spot i k) (to (spot i k)) (inl ((li, lk), refl));
              }) in
              ap (λ o. (go_on o (run body m2).mem (run (beside n one_back))).mem (at ((arrays i).block k))) f.0
              ∙ c.added k lk li ∙ summed_same op (arrays i).size (λ j. (run body m2).mem (at ((arrays i).block j)))
              (λ j. after (spot i j)) (λ j. m (at ((arrays i).block j))) (λ j. after (spot i j)) k
              (λ b lb. all_whole k b lk lb) (λ j lj. untouched j lj) (λ j lj. refl)
