-- The plan file that a text's lines are: a plan whose term has no loops and whose numbers are constants, and the arrays
-- that it works on.
use Rattle.std.specs.Prelude.{ℕ, ◌-◌, ◌==◌, pos, Option, Some, None, if◌then◌else◌, List, [], map}
use Rattle.sq_blocks.specs.Names.{Numbers}
use Rattle.sq_ir.specs.declared.num.Num.{Num}
use Rattle.sq_ir.specs.declared.num.Num.TheVariants.{Const}
use Rattle.sq_ir.specs.declared.term.Slot.{Slot}
use Rattle.sq_ir.specs.declared.term.LeafView.{LeafView}
use Rattle.sq_ir.specs.declared.term.Action.{Action}
use Rattle.sq_ir.specs.declared.term.Action.TheVariants as action
use Rattle.sq_ir.specs.declared.term.Term.{Term}
use Rattle.sq_ir.specs.declared.term.Term.TheVariants as term
use Rattle.sq_ir.specs.declared.plan.Buffer.{Buffer}
use Rattle.sq_ir.specs.declared.plan.Leaf.{Leaf}
use Rattle.sq_ir.specs.declared.plan.Draft.{Draft}
use Rattle.sq_ir.specs.declared.plan.PlanNode.{PlanNode}
use Rattle.sq_ir.specs.declared.plan.Plan.{Plan}
use Rattle.sq_ir.specs.Plans.{node_at}
use Rattle.sq_planfile.specs.declared.entry.EntryArray.{EntryArray}
use Rattle.sq_planfile.specs.File.{PlanFile}
use Rattle.sq_plantext.specs.declared.text.NodeLine.{NodeLine}
use Rattle.sq_plantext.specs.declared.text.BufferLine.{BufferLine}
use Rattle.sq_plantext.specs.declared.text.LeafText.{LeafText}
use Rattle.sq_plantext.specs.declared.text.ArrayLine.{ArrayLine}
use Rattle.sq_plantext.specs.declared.text.SlotText.{SlotText}
use Rattle.sq_plantext.specs.declared.text.ViewText.{ViewText}
use Rattle.sq_plantext.specs.declared.text.EventText.{EventText}
use Rattle.sq_plantext.specs.declared.text.EventText.TheVariants as event
use Rattle.sq_plantext.specs.declared.text.TermText.{TermText}
use Rattle.sq_plantext.specs.declared.text.TermText.TheOpen.{TermText-F}
use Rattle.sq_plantext.specs.declared.text.TermText.TheFolds.{fold-TermText}
use Rattle.sq_plantext.specs.declared.text.PlanText.{PlanText}

-- ---- lines

abbrev pub node_of : NodeLine → PlanNode
node_of n = record { level = n.level; capacity = n.capacity; first_child = n.first_child; children = n.children }

abbrev pub buffer_of : BufferLine → Buffer
buffer_of b = record { level = b.level; size = b.size; instance = b.instance; array = b.array }

abbrev pub numbers_of : LeafText → Numbers
numbers_of l = map (λ b. (b.name, b.value)) l.numbers

abbrev pub leaf_of : LeafText → Leaf
leaf_of l = record { instance = l.instance; code = record { variant = l.task; numbers = numbers_of l } }

abbrev pub array_of : ArrayLine → EntryArray
array_of a = record { mode = a.mode; elem = a.elem; name = a.name.name; extents = a.extents; buffer = a.buffer }

-- ---- events

abbrev pub constant : ℕ → Num
constant n = Const (pos n)

abbrev pub slot_of : SlotText → Slot
slot_of s = record { buffer = s.buffer; at = constant s.at }

abbrev pub view_of : ViewText → LeafView
view_of v = record { slot = slot_of v.slot; elem = v.elem; extents = v.extents; strides = v.strides }

abbrev pub action_of : EventText → Action
action_of (event.Copy from to bytes) = action.CopyRow (slot_of from) (slot_of to) bytes
action_of (event.Fill to e count value) = action.FillRow (slot_of to) e count value
action_of (event.Acc op e from to count) = action.AccRow op e (slot_of from) (slot_of to) count
action_of (event.Run leaf views path) = action.Leaf leaf (map view_of views) (map constant path)

-- ---- terms

-- where the body of a scope at this node runs: at the node in force, or at which child of it
abbrev pub child_at : List PlanNode → (here node : ℕ) → Option Num
child_at nodes here node = if here == node then None else Some (constant (node - (node_at nodes here).first_child))

-- a term below the node in force
abbrev pub Below : Type 0
Below = (here : ℕ) → Term

abbrev pub each_below : List Below → ℕ → List Term
each_below ts here = map (λ t. t here) ts

abbrev pub term_step : List PlanNode → TermText-F Below → Below
term_step nodes (TermText-F.Seq parts) here = term.Seq (each_below parts here)
term_step nodes (TermText-F.Par parts) here = term.Par (each_below parts here)
term_step nodes (TermText-F.At place node buffers body) here = term.Within (child_at nodes here node) buffers (body node)
term_step nodes (TermText-F.Act place x) here = term.Act (action_of x)

abbrev pub term_of : List PlanNode → TermText → Term
term_of nodes x = fold-TermText Below (term_step nodes) x 0

-- ---- files

abbrev pub nodes_of : PlanText → List PlanNode
nodes_of x = map node_of x.nodes

abbrev pub draft_of : PlanText → Draft
draft_of x = record {
  term = term_of (nodes_of x) x.term;
  buffers = map buffer_of x.buffers;
  leaves = map leaf_of x.leaves;
  entry = map (λ a. a.buffer) x.arrays;
  notes = [];
}

abbrev pub plan_of : PlanText → Plan
plan_of x = record { draft = draft_of x; offsets = map (λ b. b.offset) x.buffers; nodes = nodes_of x }

abbrev pub file_of : PlanText → PlanFile
file_of x = record { plan = plan_of x; arrays = map array_of x.arrays }
