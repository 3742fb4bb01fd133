-- A run changes only what its tree writes.
use Rattle.sq_cells.specs.Tree.{summed, Trap, LeafEnd, Gives, Fails, leaf_of, Action, Copy, Fill, Acc, Run, Tree, Empty}
use Rattle.sq_cells.specs.Tree.{Act, Seq, Par, After, values, value_in, store, leaf_after, act, go_on, run, ActWrites}
use Rattle.sq_cells.specs.Tree.{Writes}
use Rattle.std.proofs.Common.{◌≡◌, ℕ, zero, suc, ◌<◌, Bool, true, false, Option, Some, None, refl, ◌∙◌, arith, List}
use Rattle.std.proofs.Common.{inl, inr}
use Rattle.sq_cells.specs.Cells.{Spot, State, put_if}
use Rattle.sq_cells.proofs.Cells.{put_out}

pub put_if_out : (b : Bool) (n : ℕ) (c : ℕ → Spot) (u : ℕ → ℕ) (m : State) (p : Spot)
    → (b ≡ true → (k : ℕ) → k < n → c k ≡ p → ⊥) → put_if b n c u m p ≡ m p
put_if_out true n c u m p h = put_out n c u m p (h refl)
put_if_out false n c u m p h = refl

pub store_out : (count : ℕ) (size : ℕ → ℕ) (writes : ℕ → Bool) (cell : ℕ → ℕ → Spot) (val : ℕ → ℕ → ℕ) (m : State)
    (p : Spot) → ((i k : ℕ) → i < count → k < size i → writes i ≡ true → cell i k ≡ p → ⊥)
    → store count size writes cell val m p ≡ m p
store_out zero size writes cell val m p h = refl
store_out (suc i) size writes cell val m p h =
    put_if_out (writes i) (size i) (cell i) (val i) (store i size writes cell val m) p
    (λ w k lt e. h i k (omega arith) lt w e)
    ∙ store_out i size writes cell val m p (λ j k lj lk w e. h j k (omega arith) lk w e)

leaf_frame : (e : LeafEnd) (count : ℕ) (size : ℕ → ℕ) (writes : ℕ → Bool) (cell : ℕ → ℕ → Spot) (path : List ℕ)
    (m : State) (p : Spot) → ((i k : ℕ) → i < count → k < size i → writes i ≡ true → cell i k ≡ p → ⊥)
    → (leaf_after e count size writes cell path m).mem p ≡ m p
leaf_frame (Gives outs) count size writes cell path m p h = store_out count size writes cell (value_in outs) m p h
leaf_frame (Fails kind) count size writes cell path m p h = refl

act_frame : (a : Action) (m : State) (p : Spot) → (ActWrites a p → ⊥) → (act a m).mem p ≡ m p
act_frame (Copy n from to) m p h = put_out n to (λ k. m (from k)) m p (λ k lt e. h (k, lt, e))
act_frame (Acc op n from to) m p h
    = put_out n to (summed op (λ j. m (to j)) (λ j. m (from j))) m p (λ k lt e. h (k, lt, e))
act_frame (Fill n v to) m p h = put_out n to v m p (λ k lt e. h (k, lt, e))
act_frame (Run code count size writes cell path) m p h =
    leaf_frame (leaf_of code (values count size cell m)) count size writes cell path m p
    (λ i k li lk w e. h (i, k, li, lk, w, e))

pub go_frame : (o : Option Trap) (m : State) (next : State → After) (p : Spot) (v : ℕ) → m p ≡ v
    → ((m' : State) → (next m').mem p ≡ m' p) → (go_on o m next).mem p ≡ v
go_frame None m next p v e h = h m ∙ e
go_frame (Some x) m next p v e h = e

pub run_frame : (t : Tree) (m : State) (p : Spot) → (Writes t p → ⊥) → (run t m).mem p ≡ m p
run_frame Empty m p h = refl
run_frame (Act a) m p h = act_frame a m p h
run_frame (Seq a b) m p h = go_frame (run a m).trap (run a m).mem (run b) p (m p) (run_frame a m p (λ w. h (inl w)))
    (λ m'. run_frame b m' p (λ w. h (inr w)))
run_frame (Par a b) m p h = run_frame b (run a m).mem p (λ w. h (inr w)) ∙ run_frame a m p (λ w. h (inl w))
