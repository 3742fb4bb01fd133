-- Events that may be performed row by row.
use Rattle.std.specs.Prelude.{◌≡◌, ℕ, ◌<◌, true, []}
use Rattle.sq_cells.specs.Cells.{Spot}
use Rattle.sq_cells.specs.Machine.{Form, Node}
use Rattle.sq_cells.specs.Tree.{Action, Copy, Fill, Acc, Run, Tree, Empty, Act, Seq, Par}
use Rattle.sq_cells.specs.Work.{Array, Work}
use Rattle.sq_cells.specs.Lowered.{own, tree}
use Rattle.sq_cells.specs.Correct.{IsEntry}

-- no cell that is set is one that is read from
abbrev pub AreSeparate : ℕ → (from to : ℕ → Spot) → Type 0
AreSeparate n from to = (j k : ℕ) → j < n → k < n → to j ≡ from k → ⊥

-- What is copied or added stands apart from where it goes, what is added to has each cell once, and a written array of
-- a leaf has each cell once and shares none with another.
abbrev pub ActFits : Action → Type 0
ActFits (Copy n from to) = AreSeparate n from to
ActFits (Fill n v to) = Unit {0}
ActFits (Acc op n from to) = AreSeparate n from to × ((j k : ℕ) → j < n → k < n → to j ≡ to k → j ≡ k)
ActFits (Run code count size writes cell path) = (i k j h : ℕ) → i < count → k < size i → j < count → h < size j
    → writes i ≡ true → cell i k ≡ cell j h → (i ≡ j) × (k ≡ h)

abbrev pub ActsFit : Tree → Type 0
ActsFit Empty = Unit {0}
ActsFit (Act a) = ActFits a
ActsFit (Seq a b) = ActsFit a × ActsFit b
ActsFit (Par a b) = ActsFit a × ActsFit b

abbrev pub LoweredFit : Type 0
LoweredFit = (root : Node) (form : Form) (n : ℕ) (arrays : ℕ → Array) (w : Work) → IsEntry root form n arrays w
    → ActsFit (tree w root 0 (own root form) [])
