-- The plan file that lines stand for, with numbers of as many bits as plans have: one that doesn't fit is 0. Of sound
-- lines all fit. No public clause speaks of it.
use Rattle.std.specs.Prelude.{ℕ, ◌-◌, ◌==◌, nat_lt, nat_le, pos, Option, Some, None, if◌then◌else◌, List, [], ◌∷◌, length, map}
use Rattle.sq_ir.specs.declared.num.Num.{Num}
use Rattle.sq_ir.specs.declared.num.Num.TheVariants.{Const}
use Rattle.sq_ir.specs.declared.term.Slot.{Slot}
use Rattle.sq_ir.specs.declared.term.LeafView.{LeafView}
use Rattle.sq_ir.specs.declared.term.Action.{Action}
use Rattle.sq_ir.specs.declared.term.Action.TheVariants as action
use Rattle.sq_ir.specs.declared.term.Term.{Term}
use Rattle.sq_ir.specs.declared.term.Term.TheVariants as term
use Rattle.sq_ir.specs.declared.plan.Buffer.{Buffer}
use Rattle.sq_ir.specs.declared.plan.Leaf.{Leaf}
use Rattle.sq_ir.specs.declared.plan.Draft.{Draft}
use Rattle.sq_ir.specs.declared.plan.PlanNode.{PlanNode}
use Rattle.sq_ir.specs.declared.plan.Plan.{Plan}
use Rattle.sq_ir.specs.Plans.{node_at}
use Rattle.sq_planfile.specs.declared.entry.EntryArray.{EntryArray}
use Rattle.sq_planfile.specs.File.{PlanFile}
use Rattle.sq_planfile.specs.Files.{Below, each_below}
use Rattle.sq_plantext.specs.declared.text.NodeLine.{NodeLine}
use Rattle.sq_plantext.specs.declared.text.BufferLine.{BufferLine}
use Rattle.sq_plantext.specs.declared.text.ArrayLine.{ArrayLine}
use Rattle.sq_plantext.specs.declared.text.SlotText.{SlotText}
use Rattle.sq_plantext.specs.declared.text.ViewText.{ViewText}
use Rattle.sq_plantext.specs.declared.text.EventText.{EventText}
use Rattle.sq_plantext.specs.declared.text.EventText.TheVariants as event
use Rattle.sq_plantext.specs.declared.text.TermText.{TermText}
use Rattle.sq_plantext.specs.declared.text.TermText.TheOpen.{TermText-F}
use Rattle.sq_plantext.specs.declared.text.TermText.TheFolds.{fold-TermText}
use Rattle.sq_plantext.specs.declared.text.PlanText.{PlanText}

-- ---- numbers

-- of 32 bits
unfoldable pub word : ℕ → ℕ
word n = if nat_lt n 4294967296 then n else 0

-- of 63 bits
unfoldable pub long : ℕ → ℕ
long n = if nat_lt n 9223372036854775808 then n else 0

-- one to three numbers
abbrev pub dims_of : List ℕ → List ℕ
dims_of [] = 0 ∷ []
dims_of (n ∷ ns) = if nat_le (length ns) 2 then word n ∷ map word ns else 0 ∷ []

abbrev pub constant : ℕ → Num
constant n = Const (pos (long n))

-- ---- lines

abbrev pub node_of : NodeLine → PlanNode
node_of n = record { level = word n.level; capacity = n.capacity; first_child = word n.first_child; children = word n.children }

abbrev pub buffer_of : BufferLine → Buffer
buffer_of b = record { level = word b.level; size = b.size; instance = b.instance; array = b.array }

abbrev pub array_of : ArrayLine → EntryArray
array_of a = record { mode = a.mode; elem = a.elem; name = a.name.name; extents = dims_of a.extents; buffer = word a.buffer }

-- ---- events

abbrev pub slot_of : SlotText → Slot
slot_of s = record { buffer = word s.buffer; at = constant s.at }

abbrev pub view_of : ViewText → LeafView
view_of v = record { slot = slot_of v.slot; elem = v.elem; extents = dims_of v.extents; strides = dims_of v.strides }

abbrev pub action_of : EventText → Action
action_of (event.Copy from to bytes) = action.CopyRow (slot_of from) (slot_of to) (word bytes)
action_of (event.Fill to e count value) = action.FillRow (slot_of to) e (word count) value
action_of (event.Acc op e from to count) = action.AccRow op e (slot_of from) (slot_of to) (word count)
action_of (event.Run leaf views path) = action.Leaf (word leaf) (map view_of views) (map constant path)

-- ---- terms

abbrev pub child_at : List PlanNode → (here node : ℕ) → Option Num
child_at nodes here node = if here == node then None else Some (constant (node - (node_at nodes here).first_child))

abbrev pub term_step : List PlanNode → TermText-F Below → Below
term_step nodes (TermText-F.Seq parts) here = term.Seq (each_below parts here)
term_step nodes (TermText-F.Par parts) here = term.Par (each_below parts here)
term_step nodes (TermText-F.At place node buffers body) here = term.Within (child_at nodes here node) (map word buffers) (body node)
term_step nodes (TermText-F.Act place x) here = term.Act (action_of x)

abbrev pub term_of : List PlanNode → TermText → Below
term_of nodes = fold-TermText Below (term_step nodes)

abbrev pub terms_of : List PlanNode → List TermText → ℕ → List Term
terms_of nodes xs here = map (λ x. term_of nodes x here) xs

-- ---- files

abbrev pub nodes_of : PlanText → List PlanNode
nodes_of x = map node_of x.nodes

abbrev pub draft_of : List PlanNode → PlanText → List Leaf → Draft
draft_of nodes x leaves = record {
  term = term_of nodes x.term 0;
  buffers = map buffer_of x.buffers;
  leaves = leaves;
  entry = map (λ a. word a.buffer) x.arrays;
  notes = [];
}

abbrev pub plan_of : PlanText → List Leaf → Plan
plan_of x leaves = record { draft = draft_of (nodes_of x) x leaves; offsets = map (λ b. b.offset) x.buffers; nodes = nodes_of x }

abbrev pub file_of : PlanText → List Leaf → PlanFile
file_of x leaves = record { plan = plan_of x leaves; arrays = map array_of x.arrays }
