-- An array as rows of bytes, and the events of a leaf.
use Rattle.std.specs.Prelude.{◌≡◌, ℕ, ◌+◌, ◌*◌, ◌<◌, ℤ}
use Rattle.sq_num.specs.declared.Elem.{Elem}
use Rattle.sq_num.specs.declared.RedOp.{RedOp}
use Rattle.sq_ir.specs.Tree.{Act}
use Rattle.sq_ir.specs.Events as events
use Rattle.sq_ir.specs.Events.{Copy, Fill, Accumulate}
use Rattle.sq_ir.specs.Written.{PlanTree, seq_of}
use Rattle.sq_cells.specs.Cells.{Spot, spot}

-- so many rows of so many bytes each, of which the r-th begins at first r, have the n cells
pub record AreRows (rows len : ℕ) (first : ℕ → events.Spot) (n : ℕ) (cell : ℕ → Spot) : Type 0 where
  pub size : n ≡ rows * len
  pub at : (r j : ℕ) → r < rows → j < len → cell (r * len + j) ≡ spot (first r).node ((first r).at + j)

abbrev pub copies : (rows len : ℕ) → (from to : ℕ → events.Spot) → PlanTree
copies rows len from to = seq_of rows (λ r. Act (Copy (from r) (to r) len)) 0

abbrev pub fills : (rows : ℕ) → (elem : Elem) → (count : ℕ) → ℤ → (to : ℕ → events.Spot) → PlanTree
fills rows elem count v to = seq_of rows (λ r. Act (Fill (to r) elem count v)) 0

abbrev pub sums : (rows : ℕ) → RedOp → (elem : Elem) → (count : ℕ) → (from to : ℕ → events.Spot) → PlanTree
sums rows op elem count from to = seq_of rows (λ r. Act (Accumulate op elem (from r) (to r) count)) 0
