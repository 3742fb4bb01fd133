-- The whole, at the entry: from bytes to bytes, against the source on the numbers that they stand for.
use Rattle.std.specs.Prelude.{◌≡◌, ℕ, Bool, List, [], length, Some, None, Ok, Err, slice_get}
use Rattle.sq_leaf.specs.declared.shape.Shape.{Shape}
use Rattle.sq_leaf.specs.Source.{Arrays}
use Rattle.sq_work.specs.Meaning.{Outcome, meaning}
use Rattle.sq_work.specs.InTurn.{IsRaceFree}
use Rattle.sq_placed.specs.Placed.{Placed, plain}
use Rattle.sq_cells.specs.Machine.{Node, Form}
use Rattle.sq_cells.specs.Cells.{Spot, State}
use Rattle.sq_cells.specs.Tree.{After, run, Independent}
use Rattle.sq_cells.specs.Work.{Array, Work}
use Rattle.sq_cells.specs.Work as bytes
use Rattle.sq_cells.specs.Lowered.{own, tree, Scratch}
use Rattle.sq_cells.specs.Lowered as low
use Rattle.sq_plan_laws.specs.Codes.{Codes, SameOutcome}
use Rattle.sq_plan_laws.specs.Calling.{local_of}
use Rattle.sq_plan_laws.specs.OnBytes.{Codings, work}
use Rattle.sq_plan_laws.specs.Fitting.{Fitting}
use Rattle.sq_plan_laws.specs.Keeping.{Keeping}
use Rattle.sq_plan_laws.specs.Stowed.{Stowed}

-- the entry's arrays
abbrev pub entry_arrays : List Shape → ℕ → Array
entry_arrays outer i = local_of (slice_get outer i)

-- they stand apart at the root, and apart from every buffer further in
pub record EntryStowed (root : Node) (form : Form) (outer : List Shape) (w : Work) : Type 0 where
  pub stowed : Stowed w root 0
  pub separate : (l l' : Spot) → low.IsIn (length outer) (entry_arrays outer) l
      → low.IsIn (length outer) (entry_arrays outer) l' → own root form l ≡ own root form l' → l ≡ l'
  pub below : (l : Spot) → low.IsIn (length outer) (entry_arrays outer) l → Scratch w root 0 (own root form l) → ⊥

-- what is asked of a placed source and of where it was placed
pub record IsReady (codes : Codings) (offset : ℕ → ℕ) (root : Node) (form : Form) (outer : List Shape) (may : ℕ → Bool)
    (p : Placed) : Type 0 where
  pub fitting : Fitting codes p None outer
  pub keeping : Keeping p may
  pub race_free : IsRaceFree (plain p)
  pub stowed : EntryStowed root form outer (work codes offset p outer)

-- the arrays in the entry's buffers are those that are meant, or the trap is
abbrev pub EndsAs : Node → Form → List Shape → Outcome → After → Type 0
EndsAs root form outer (Ok a) r = (r.trap ≡ None) × Codes outer a (λ l. r.mem (own root form l))
EndsAs root form outer (Err x) r = r.trap ≡ Some (record { path = x.path; cause = x.trap })

-- A placed source means on bytes what it means on numbers.
abbrev pub MeansOnBytes : Type 0
MeansOnBytes = (codes : Codings) (offset : ℕ → ℕ) (p : Placed) (outer : List Shape) → Fitting codes p None outer
    → (s : Arrays) (s' : State) → Codes outer s s'
    → SameOutcome outer (meaning (plain p) s) (bytes.meaning (work codes offset p outer) s')

-- Whatever bytes the memory holds, the run ends as the source means on the numbers that stand in the entry's buffers.
abbrev pub PlacedFollows : Type 0
PlacedFollows =
    (codes : Codings) (offset : ℕ → ℕ) (root : Node) (form : Form) (outer : List Shape) (may : ℕ → Bool) (p : Placed)
    → IsReady codes offset root form outer may p
    → (s : Arrays) (m : State) → Codes outer s (λ l. m (own root form l))
    → EndsAs root form outer (meaning (plain p) s) (run (tree (work codes offset p outer) root 0 (own root form) []) m)

-- And its unordered events are independent.
abbrev pub PlacedIsIndependent : Type 0
PlacedIsIndependent =
    (codes : Codings) (offset : ℕ → ℕ) (root : Node) (form : Form) (outer : List Shape) (may : ℕ → Bool) (p : Placed)
    → IsReady codes offset root form outer may p
    → Independent (tree (work codes offset p outer) root 0 (own root form) [])
