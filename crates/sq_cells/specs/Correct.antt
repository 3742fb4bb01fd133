-- What it is for a run to follow the source.
use Rattle.sq_cells.specs.Machine.{Op, Form, Node}
use Rattle.sq_cells.specs.Tree.{combined, Trap, After, run, Independent}
use Rattle.std.specs.Prelude.{◌≡◌, ℕ, ◌⊎◌, Some, None, List, [], ◌++◌}
use Rattle.sq_cells.specs.Cells.{Spot, State}
use Rattle.sq_cells.specs.Work.{Array, Work, Outcome, Ends, Traps, meaning}
use Rattle.sq_cells.specs.Lowered.{Layout, own, tree, IsIn, Scratch, Needs, Sets, Gathers, Sound}

abbrev pub under : List ℕ → Trap → Trap
under path x = record { path = path ++ x.path; cause = x.cause }

-- the run ends without a trap and each place of R holds its element, or it has the source's trap below the path
abbrev pub Follows : (Spot → Spot → Type 0) → List ℕ → Outcome → After → Type 0
Follows R path (Ends s) r = (r.trap ≡ None) × ((l p : Spot) → R l p → r.mem p ≡ s l)
Follows R path (Traps x) r = r.trap ≡ Some (under path x)

-- R, which place holds which element, serves a work
pub record Meets (R : Spot → Spot → Type 0) (w : Work) (node : Node) (kid : ℕ) (at : Layout) : Type 0 where
  pub cover : (l p : Spot) → Needs w node kid at l p → R l p
  -- an element that is set stands at one place, and that place is no other element's
  pub one : (l p p' : Spot) → Sets w node kid at l p → R l p' ⊎ Sets w node kid at l p' → p ≡ p'
  pub clear : (l l' p : Spot) → Sets w node kid at l p → R l' p ⊎ Sets w node kid at l' p → l ≡ l'
  pub apart : (l p : Spot) → R l p ⊎ Sets w node kid at l p → Scratch w node kid p → ⊥
  -- what a reduction further out gathers is no place of this
  pub aside : (l l' p : Spot) → R l p ⊎ Sets w node kid at l p → Gathers w node kid at l' p → ⊥
  pub sums : (l l' p : Spot) → Gathers w node kid at l p → Gathers w node kid at l' p → l ≡ l'
  pub sum_apart : (l p : Spot) → Gathers w node kid at l p → Scratch w node kid p → ⊥

-- the entry's form: its arrays stand at the root
pub record IsEntry (root : Node) (form : Form) (n : ℕ) (arrays : ℕ → Array) (w : Work) : Type 0 where
  pub sound : Sound w root 0
  pub inside : (at : Layout) (l p : Spot) → Needs w root 0 at l p ⊎ Sets w root 0 at l p → IsIn n arrays l × (at l ≡ p)
  pub closed : (at : Layout) (l p : Spot) → Gathers w root 0 at l p → ⊥
  pub separate : (l l' : Spot) → IsIn n arrays l → IsIn n arrays l' → own root form l ≡ own root form l' → l ≡ l'
  pub below : (l : Spot) → IsIn n arrays l → Scratch w root 0 (own root form l) → ⊥

-- the one law of a reduction that the order of iterations needs
abbrev pub AnyOrder : Type 0
AnyOrder = (op : Op) (a x y : List ℕ) → combined op (combined op a x) y ≡ combined op (combined op a y) x

-- from every memory that holds the source's state in the entry's buffers, whatever else it holds, the run ends as the
-- source's meaning does
abbrev pub LoweredFollows : Type 0
LoweredFollows =
    (root : Node) (form : Form) (n : ℕ) (arrays : ℕ → Array) (w : Work) (s m : State) → IsEntry root form n arrays w
    → ((l : Spot) → IsIn n arrays l → m (own root form l) ≡ s l) →
    Follows (λ l p. IsIn n arrays l × (own root form l ≡ p)) [] (meaning w s) (run (tree w root 0 (own root form) []) m)

abbrev pub LoweredIndependent : Type 0
LoweredIndependent = (root : Node) (form : Form) (n : ℕ) (arrays : ℕ → Array) (w : Work) → IsEntry root form n arrays w
    → Independent (tree w root 0 (own root form) [])
