-- What a placed source's tree is like.
use Rattle.std.specs.Prelude.{ℕ, List}
use Rattle.sq_leaf.specs.declared.shape.Shape.{Shape}
use Rattle.sq_ir.specs.Events.{Leaves}
use Rattle.sq_ir.specs.Written.{Setting}
use Rattle.sq_placed.specs.Placed.{Placed}
use Rattle.sq_placed.specs.Seats.{Seat}
use Rattle.sq_placed.specs.Trees.{tree}
use Rattle.sq_cells.specs.Tree.{Cause}
use Rattle.sq_cells.specs.Lowered as lowered
use Rattle.sq_cells.specs.Lowered.{Layout}
use Rattle.sq_cells.specs.Alike.{IsLike}
use Rattle.sq_plan_laws.specs.OnBytes.{work}
use Rattle.sq_plan_laws.specs.Seated.{IsSeated, AreAt, Sits, at_node}
use Rattle.sq_plan_laws.specs.LeafLaws.{codes_of}

abbrev pub TreesAreLike : Type 0
TreesAreLike =
    (s : Setting) (leaves : Leaves Cause) (p : Placed) (node child : ℕ) (outer : List Shape) (seats : List Seat)
    (at : Layout) (path : List ℕ) → Sits leaves p outer → IsSeated outer seats at → AreAt node seats
    → IsLike leaves (tree s p node child seats path)
    (lowered.tree (work (codes_of leaves) s.offset p outer) (at_node s node) child at path)
