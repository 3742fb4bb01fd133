-- What is asked of offsets and nodes: the part of a work's conditions that does not come from its source.
use Rattle.std.specs.Prelude.{◌≡◌, ◌≢◌, ℕ, ◌<◌, true, Some, None}
use Rattle.sq_cells.specs.Cells.{Spot}
use Rattle.sq_cells.specs.Machine.{Node, Form, child_of, lane_of}
use Rattle.sq_cells.specs.Work.{Array, Work, Nothing, Then, Each, AtOnce, Call, Hold, Reduce, Piped, Leaf, Held}
use Rattle.sq_cells.specs.Lowered.{node_of, lane_kid, own, set_of, IsIn, Scratch, HasLane, CallPlaced, SetsPlaced}

-- iterations at different children have their buffers apart
pub record LanesApart (n : ℕ) (w : ℕ → Work) (node : Node) (kid : ℕ → ℕ) : Type 0 where
  pub lanes : (a b : ℕ) → a < n → b < n → kid a ≢ kid b → (p : Spot) → Scratch (w a) node (kid a) p
      → Scratch (w b) node (kid b) p → ⊥

pub record HoldPlaced (form : Form) (n : ℕ) (arrays : ℕ → Array) (w : Work) (node : Node) (kid : ℕ) : Type 0 where
  pub separate : (q q' : Spot) → IsIn n arrays q → IsIn n arrays q' → (arrays q.area).place ≡ Held
      → (arrays q'.area).place ≡ Held → own (child_of node kid) form q ≡ own (child_of node kid) form q' → q ≡ q'
  pub below : (q : Spot) → IsIn n arrays q → (arrays q.area).place ≡ Held
      → Scratch w node kid (own (child_of node kid) form q) → ⊥

abbrev pub Stowed : Work → (node : Node) (kid : ℕ) → Type 0
Stowed Nothing node kid = Unit {0}
Stowed (Then a b) node kid = Stowed a node kid × Stowed b node kid
Stowed (Each n w) node kid = (t : ℕ) → t < n → Stowed (w t) node kid
Stowed (AtOnce spread n w) node kid = LanesApart n w node (lane_kid spread node kid n)
    × ((t : ℕ) → t < n → HasLane spread node n t × Stowed (w t) node (lane_kid spread node kid n t))
Stowed (Call form lower n arrays w) node kid = CallPlaced (node_of lower node kid) form n arrays w
    × Stowed w (node_of lower node kid) 0
Stowed (Hold form n arrays w) node kid = HoldPlaced form n arrays w node kid × Stowed w node kid
Stowed (Reduce op size block which spread n form lower c arrays w) node kid =
    LanesApart n (λ t. Call (form t) lower (c t) (arrays t) (w t)) node (lane_kid spread node kid n)
    × ((t : ℕ) → t < n → HasLane spread node n t
    × CallPlaced (node_of lower node (lane_kid spread node kid n t)) (form t) (c t) (arrays t) (w t)
    × Stowed (w t) (node_of lower node (lane_kid spread node kid n t)) 0)
Stowed (Piped None n form second c arrays w) node kid =
    SetsPlaced None node kid n form second c arrays w
    × ((t : ℕ) → t < n → CallPlaced (child_of node kid) (set_of None node n form second t) c (arrays t) (w t)
    × Stowed (w t) (child_of node kid) 0)
Stowed (Piped (Some rule) n form second c arrays w) node kid =
    SetsPlaced (Some rule) node kid n form second c arrays w
    × LanesApart n (λ t. Call (set_of (Some rule) node n form second t) true c (arrays t) (w t)) node
    (lane_kid (Some rule) node kid n)
    × ((t : ℕ) → t < n → HasLane (Some rule) node n t
    × CallPlaced (child_of node (lane_of rule node n t)) (set_of (Some rule) node n form second t) c (arrays t) (w t)
    × Stowed (w t) (child_of node (lane_of rule node n t)) 0)
Stowed (Leaf code n size writes) node kid = Unit {0}
