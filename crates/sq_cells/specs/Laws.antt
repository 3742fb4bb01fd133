-- What follows for a tree of a plan from a tree over cells that it is like.
use Rattle.std.specs.Prelude.{◌≡◌}
use Rattle.sq_ir.specs.Unordered.{AllEvents, EachUnordered}
use Rattle.sq_ir.specs.Events.{Leaves, AreIndependent}
use Rattle.sq_ir.specs.Written.{PlanTree}
use Rattle.sq_cells.specs.Tree as cells
use Rattle.sq_cells.specs.Tree.{Cause, Independent}
use Rattle.sq_cells.specs.Leaves.{leaf_events, PathsApart}
use Rattle.sq_cells.specs.Fits.{ActsFit}
use Rattle.sq_cells.specs.Alike.{Does, MayRun, Weight, leaf_count, kind_of, IsLike}

abbrev pub AlikeEndAlike : Type 0
AlikeEndAlike = (leaves : Leaves Cause) (t : PlanTree) (n : cells.Tree) → IsLike leaves t n → ActsFit n
    → Does leaves t n

-- its leaf events are those of the tree over cells
abbrev pub AlikeCountAlike : Type 0
AlikeCountAlike = (leaves : Leaves Cause) (t : PlanTree) (n : cells.Tree) → IsLike leaves t n → (f : Weight)
    → leaf_count f t ≡ leaf_events (kind_of f) n

abbrev pub AlikeAreSafe : Type 0
AlikeAreSafe = (leaves : Leaves Cause) (t : PlanTree) (n : cells.Tree) → IsLike leaves t n → ActsFit n → Independent n
    → PathsApart n → EachUnordered (AreIndependent leaves) t × AllEvents (MayRun leaves) t
