-- A tree of a plan against a tree over cells: it ends alike, and its events touch no more.
use Rattle.std.specs.Prelude.{◌≡◌, ℕ, ◌+◌, ◌-◌, ◌*◌, ◌<◌, true, List, length, map, Some, is_none}
use Rattle.std.specs.List.{All}
use Rattle.sq_num.specs.Elements.{width}
use Rattle.sq_ir.specs.Rect.declared.view.View.{View}
use Rattle.sq_ir.specs.Tree.{Skip, Act, Stuck, Seq, Par, Within}
use Rattle.sq_ir.specs.Runs.{End, exec}
use Rattle.sq_ir.specs.Unordered.{AllEvents, AllUnordered}
use Rattle.sq_ir.specs.Events as events
use Rattle.sq_ir.specs.Events.{Event, Copy, Fill, Accumulate, Leaf, Leaves, Bytes, in_row, place_in, shape_of, in_views}
use Rattle.sq_ir.specs.Events.{written_views, ShareNothing, AreIndependent, meaning}
use Rattle.sq_ir.specs.Plans.{AreApart}
use Rattle.sq_ir.specs.Written.{PlanTree}
use Rattle.sq_cells.specs.Cells.{Spot, spot, State}
use Rattle.sq_cells.specs.Tree as cells
use Rattle.sq_cells.specs.Tree.{Cause, After, run, Puts, Adds, Takes, Independent}
use Rattle.sq_cells.specs.Leaves.{Kind, leaf_events, HasLeaf, PathsApart}
use Rattle.sq_cells.specs.Fits.{ActsFit}

-- ---- memories

abbrev pub cell_of : events.Spot → Spot
cell_of a = spot a.node a.at

abbrev pub byte_of : Spot → events.Spot
byte_of p = record { node = p.area; at = p.index }

abbrev pub state_of : Bytes → State
state_of m p = m (byte_of p)

abbrev pub bytes_of : State → Bytes
bytes_of s a = s (cell_of a)

abbrev pub end_of : After → End Bytes Cause
end_of r = record { bytes = bytes_of r.mem; finished = is_none r.trap; trap = r.trap }

-- ---- events

-- what an event touches lies in what the tree over cells puts, adds to and takes, and a leaf's path is of one of its
-- leaves
abbrev pub IsOf : Leaves Cause → cells.Tree → Event → Type 0
IsOf leaves n (Copy from to bytes) = ((a : events.Spot) → in_row to.node to.at bytes a ≡ true → Puts n (cell_of a))
    × ((a : events.Spot) → in_row from.node from.at bytes a ≡ true → Takes n (cell_of a))
IsOf leaves n (Fill to elem count v) = (a : events.Spot) → in_row to.node to.at (count * width elem) a ≡ true
    → Puts n (cell_of a)
IsOf leaves n (Accumulate op elem from to count) =
    ((a : events.Spot) → in_row to.node to.at (count * width elem) a ≡ true
    → Adds n (record { op = record { red = op; elem = elem }; head = spot a.node (a.at - place_in elem to.at a) })
    (cell_of a))
    × ((a : events.Spot) → in_row from.node from.at (count * width elem) a ≡ true → Takes n (cell_of a))
IsOf leaves n (Leaf node code vs path) =
    ((a : events.Spot) → in_views node (written_views leaves code vs) a ≡ true → Puts n (cell_of a))
    × ((a : events.Spot) → in_views node vs a ≡ true → Takes n (cell_of a))
    × HasLeaf n path

-- the leaf of this number is there and the views are of its shapes
pub record IsCalled (leaves : Leaves Cause) (code : ℕ) (vs : List View) : Type 0 where
  pub shapes : leaves.shapes code ≡ Some (map shape_of vs)
  pub strides : All (λ v. length v.strides ≡ length v.extents) vs
  pub some : All (λ v. All (λ n. 0 < n) v.extents) vs

-- What is asked of an event that is performed, beside numbers and room.
abbrev pub MayRun : Leaves Cause → Event → Type 0
MayRun leaves (Copy from to bytes) = ShareNothing from.node from.at bytes to.node to.at bytes
MayRun leaves (Fill to elem count v) = Unit {0}
MayRun leaves (Accumulate op elem from to count)
    = ShareNothing from.node from.at (count * width elem) to.node to.at (count * width elem)
MayRun leaves (Leaf node code vs path) = IsCalled leaves code vs × AreApart (leaves.written code) vs

-- ---- leaves, counted

-- how much a leaf event counts, by its number and its path: 1 for one pair and 0 for the rest, say
abbrev pub Weight : Type 0
Weight = (code : ℕ) → (path : List ℕ) → ℕ

abbrev pub event_count : Weight → Event → ℕ
event_count f (Copy from to bytes) = 0
event_count f (Fill to elem count v) = 0
event_count f (Accumulate op elem from to count) = 0
event_count f (Leaf node code vs path) = f code path

abbrev pub leaf_count : Weight → PlanTree → ℕ
leaf_count f Skip = 0
leaf_count f (Act e) = event_count f e
leaf_count f (Stuck e) = event_count f e
leaf_count f (Seq a b) = leaf_count f a + leaf_count f b
leaf_count f (Par a b) = leaf_count f a + leaf_count f b
leaf_count f (Within s a) = leaf_count f a

abbrev pub kind_of : Weight → Kind
kind_of f code count size writes path = f code.number path

-- ---- trees

-- from any bytes the tree ends as the other one does from the same cells
abbrev pub Does : Leaves Cause → PlanTree → cells.Tree → Type 0
Does leaves t n = (m : Bytes) → exec (meaning leaves) t m ≡ end_of (run n (state_of m))

pub record IsLike (leaves : Leaves Cause) (t : PlanTree) (n : cells.Tree) : Type 0 where
  pub does : ActsFit n → Does leaves t n
  pub events : AllEvents (IsOf leaves n) t
  pub safe : Independent n → PathsApart n → AllUnordered (AreIndependent leaves) t
  pub may : ActsFit n → AllEvents (MayRun leaves) t
  pub counted : (f : Weight) → leaf_count f t ≡ leaf_events (kind_of f) n
