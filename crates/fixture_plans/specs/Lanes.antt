-- A plan made by hand: three iterations, spread over the two children of a root.
use Rattle.std.specs.Prelude.{ℤ, pos, List, [], ◌∷◌, Some}
use Rattle.sq_num.specs.declared.Elem.TheVariants.{Int}
use Rattle.sq_num.specs.declared.RedOp.TheVariants as op
use Rattle.sq_text.specs.declared.spread.SpreadRule.{SpreadRule}
use Rattle.sq_text.specs.declared.spread.SpreadRule.TheVariants.{Cyclic, Blocked}
use Rattle.sq_ir.specs.Examples.{nodes, buffer, slot}
use Rattle.sq_ir.specs.declared.num.Num.{Num}
use Rattle.sq_ir.specs.declared.num.Num.TheVariants as n
use Rattle.sq_ir.specs.declared.term.LeafView.{LeafView}
use Rattle.sq_ir.specs.declared.term.Action.{Action}
use Rattle.sq_ir.specs.declared.term.Action.TheVariants as action
use Rattle.sq_ir.specs.declared.term.Term.{Term}
use Rattle.sq_ir.specs.declared.term.Term.TheVariants as t
use Rattle.sq_ir.specs.declared.plan.Leaf.{Leaf}
use Rattle.sq_ir.specs.declared.plan.Plan.{Plan}

-- ---- numbers

abbrev pub first : Num
first = n.Const (pos 0)

abbrev pub second : Num
second = n.Const (pos 4)

abbrev pub last : Num
last = n.Const (pos 12)

-- where the int of an iteration begins
abbrev pub starts : List ℤ
starts = pos 0 ∷ pos 4 ∷ pos 8 ∷ []

abbrev pub own : Num
own = n.Pick starts (n.Index 0)

-- the child of an iteration: 0, 1, 0 or 0, 0, 1
abbrev pub children_of : SpreadRule → List ℤ
children_of Cyclic = pos 0 ∷ pos 1 ∷ pos 0 ∷ []
children_of Blocked = pos 0 ∷ pos 0 ∷ pos 1 ∷ []

-- ---- what an iteration does: a child has room for two ints, and the root for four

-- its int is copied down,
abbrev pub down : Action
down = action.CopyRow (slot 0 own) (slot 1 first) 4

-- a leaf works on it,
abbrev pub view : LeafView
view = record { slot = slot 1 first; elem = Int; extents = 1 ∷ []; strides = 1 ∷ [] }

abbrev pub call : Action
call = action.Leaf 0 (view ∷ []) (n.Index 0 ∷ [])

-- beside it stands a 5,
abbrev pub fill : Action
fill = action.FillRow (slot 1 second) Int 1 (pos 5)

-- to which it is added,
abbrev pub add : Action
add = action.AccRow op.Add Int (slot 1 first) (slot 1 second) 1

-- and the sum is added to the root's last int
abbrev pub collect : Action
collect = action.AccRow op.Add Int (slot 1 second) (slot 0 last) 1

-- and goes back up to its place.
abbrev pub up : Action
up = action.CopyRow (slot 1 second) (slot 0 own) 4

abbrev pub steps : List Term
steps = t.Act down ∷ t.Act call ∷ t.Act fill ∷ t.Act add ∷ t.Act collect ∷ t.Act up ∷ []

abbrev pub lane : SpreadRule → Term
lane rule = t.Within (Some (n.Pick (children_of rule) (n.Index 0))) (1 ∷ []) (t.Seq steps)

abbrev pub lanes : SpreadRule → Leaf → Plan
lanes rule leaf =
    record {
      draft = record {
        term = t.Spread (n.Const (pos 3)) rule (lane rule);
        buffers = buffer 0 16 ∷ buffer 1 8 ∷ [];
        leaves = leaf ∷ [];
        entry = 0 ∷ [];
        notes = [];
      };
      offsets = 0 ∷ 0 ∷ [];
      nodes = nodes;
    }
