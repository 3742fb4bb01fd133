-- A plan file written out as lines: its loops iteration by iteration, and each number as its value.
use Rattle.std.specs.Prelude.{ℕ, zero, suc, ◌+◌, ◌==◌, Bool, false, ◌||◌, ℤ, pos, negsuc, Option, if◌then◌else◌, List, [], ◌∷◌, ◌++◌, map, get_or}
use Rattle.std.specs.List.{flat_map}
use Rattle.sq_text.specs.declared.spread.SpreadRule.{SpreadRule}
use Rattle.sq_text.specs.Spreading.{child_of}
use Rattle.sq_text.specs.Names.{Bytes, same_name}
use Rattle.sq_ast.specs.declared.program.Extent.{Extent}
use Rattle.sq_ast.specs.declared.program.Extent.TheVariants as extent
use Rattle.sq_ast.specs.declared.program.Decl.{Decl}
use Rattle.sq_ast.specs.declared.program.Decl.TheVariants as decl
use Rattle.sq_ast.specs.declared.program.Variant.{Variant}
use Rattle.sq_ast.specs.Unplaced.{nowhere}
use Rattle.sq_blocks.specs.Names.{Numbers, number_of}
use Rattle.sq_ir.specs.declared.num.Num.{Num}
use Rattle.sq_ir.specs.declared.term.Slot.{Slot}
use Rattle.sq_ir.specs.declared.term.LeafView.{LeafView}
use Rattle.sq_ir.specs.declared.term.Action.{Action}
use Rattle.sq_ir.specs.declared.term.Action.TheVariants as action
use Rattle.sq_ir.specs.declared.term.Term.{Term}
use Rattle.sq_ir.specs.declared.term.Term.TheOpen.{Term-F}
use Rattle.sq_ir.specs.declared.term.Term.TheFolds.{fold-Term}
use Rattle.sq_ir.specs.declared.plan.Buffer.{Buffer}
use Rattle.sq_ir.specs.declared.plan.Leaf.{Leaf}
use Rattle.sq_ir.specs.declared.plan.PlanNode.{PlanNode}
use Rattle.sq_ir.specs.Written.{Setting, Env, at_root, node_of, at_turn, value_of, count_of, inside_of}
use Rattle.sq_ir.specs.Plans.{setting_of}
use Rattle.sq_plantext.specs.Grammar.{name_at, binding, node_line, buffer_line, leaf_text, array_line}
use Rattle.sq_plantext.specs.declared.text.NodeLine.{NodeLine}
use Rattle.sq_plantext.specs.declared.text.BufferLine.{BufferLine}
use Rattle.sq_plantext.specs.declared.text.Binding.{Binding}
use Rattle.sq_plantext.specs.declared.text.LeafText.{LeafText}
use Rattle.sq_plantext.specs.declared.text.ArrayLine.{ArrayLine}
use Rattle.sq_plantext.specs.declared.text.SlotText.{SlotText}
use Rattle.sq_plantext.specs.declared.text.ViewText.{ViewText}
use Rattle.sq_plantext.specs.declared.text.EventText.{EventText}
use Rattle.sq_plantext.specs.declared.text.EventText.TheVariants as event
use Rattle.sq_plantext.specs.declared.text.TermText.TheVariants as text
use Rattle.sq_plantext.specs.declared.text.PlanText.{PlanText}
use Rattle.sq_planfile.specs.declared.entry.EntryArray.{EntryArray}
use Rattle.sq_planfile.specs.declared.left.Left.{Left}
use Rattle.sq_planfile.specs.declared.left.Left.TheVariants.{Nothing, Alone}
use Rattle.sq_planfile.specs.Left.{then_seq, then_par, whole, scope}
use Rattle.sq_planfile.specs.File.{PlanFile}

-- ---- events, where each number counts so much

abbrev pub slot_text : (Num → ℕ) → Slot → SlotText
slot_text count slot = record { buffer = slot.buffer; at = count slot.at }

abbrev pub view_text : (Num → ℕ) → LeafView → ViewText
view_text count v = record { slot = slot_text count v.slot; elem = v.elem; extents = v.extents; strides = v.strides }

abbrev pub event_text : (Num → ℕ) → Action → EventText
event_text count (action.CopyRow from to bytes) = event.Copy (slot_text count from) (slot_text count to) bytes
event_text count (action.FillRow to e n value) = event.Fill (slot_text count to) e n value
event_text count (action.AccRow op e from to n) = event.Acc op e (slot_text count from) (slot_text count to) n
event_text count (action.Leaf code views path) = event.Run code (map (view_text count) views) (map count path)

-- ---- terms

-- What is known where a part stands: the value of a number and, of one that counts, how much it is; the node in force,
-- and how many children it has; where the part of an iteration stands, and where the body of a scope does.
pub record Reading (At : Type 0) : Type 0 where
  pub value : Num → At → ℤ
  pub count : Num → At → ℕ
  pub node : At → ℕ
  pub children : At → ℕ
  pub turn : At → ℕ → At
  pub inside : Option Num → At → At

module _ {At : Type 0} where
  abbrev pub seq_parts : List (At → Left) → At → Left
  seq_parts [] at = Nothing
  seq_parts (t ∷ ts) at = then_seq (t at) (seq_parts ts at)

  abbrev pub par_parts : List (At → Left) → At → Left
  par_parts [] at = Nothing
  par_parts (t ∷ ts) at = then_par (t at) (par_parts ts at)

  -- the part of a number, or nothing
  abbrev pub arm_of : List (At → Left) → ℕ → At → Left
  arm_of [] k at = Nothing
  arm_of (t ∷ ts) zero at = t at
  arm_of (t ∷ ts) (suc k) at = arm_of ts k at

  abbrev pub arm_at : List (At → Left) → ℤ → At → Left
  arm_at arms (pos k) at = arm_of arms k at
  arm_at arms (negsuc k) at = Nothing

-- f of the numbers from t on, so many, in sequence and beside one another
unfoldable pub seq_of : (count : ℕ) → (ℕ → Left) → (t : ℕ) → Left
seq_of zero f t = Nothing
seq_of (suc n) f t = then_seq (f t) (seq_of n f (t + 1))

unfoldable pub par_of : (count : ℕ) → (ℕ → Left) → (t : ℕ) → Left
par_of zero f t = Nothing
par_of (suc n) f t = then_par (f t) (par_of n f (t + 1))

module _ {At : Type 0} (r : Reading At) where
  -- of a spread's iterations the t-th where it stands at the child c, and otherwise nothing
  abbrev pub turn_at : SpreadRule → (count children : ℕ) → (At → Left) → At → (c t : ℕ) → Left
  turn_at rule count children body at c t = if child_of rule count children t == c then body (r.turn at t) else Nothing

  -- of one level, its parts being written out already
  abbrev pub left_step : Term-F (At → Left) → At → Left
  left_step Term-F.Skip at = Nothing
  left_step (Term-F.Act a) at = Alone (text.Act nowhere (event_text (λ n. r.count n at) a))
  left_step (Term-F.Seq ts) at = seq_parts ts at
  left_step (Term-F.Par ts) at = par_parts ts at
  left_step (Term-F.Loop n body) at = seq_of (r.count n at) (λ t. body (r.turn at t)) 0
  left_step (Term-F.Spread n rule body) at =
      par_of (r.children at) (λ c. seq_of (r.count n at) (turn_at rule (r.count n at) (r.children at) body at c) 0) 0
  left_step (Term-F.Case pick arms) at = arm_at arms (r.value pick at) at
  left_step (Term-F.Within child buffers body) at = scope (r.node at) (r.node (r.inside child at)) buffers (body (r.inside child at))

  abbrev pub left_by : Term → At → Left
  left_by = fold-Term (At → Left) left_step

-- numbers without bounds, and nodes as the machine has them
abbrev pub reading_of : Setting → Reading Env
reading_of s = record {
  value = value_of s;
  count = count_of s;
  node = node_of;
  children = λ env. s.children (node_of env);
  turn = at_turn;
  inside = λ child env. inside_of s env child;
}

-- what is left of a term
abbrev pub left_of : Setting → Term → Env → Left
left_of s = left_by (reading_of s)

-- ---- leaves

abbrev pub sizes_in : Extent → List Bytes
sizes_in (extent.Size place name) = name ∷ []
sizes_in (extent.Fixed place n) = []

abbrev pub tunables_in : Decl → List Bytes
tunables_in (decl.Tunable place name) = name ∷ []
tunables_in _ = []

-- the size names of a task, and its tunables, in the order of its text
abbrev pub names_in : Variant → List Bytes
names_in v = flat_map (λ p. flat_map sizes_in p.extents) v.params ++ flat_map tunables_in v.decls

abbrev pub has : List Bytes → Bytes → Bool
has [] n = false
has (m ∷ ms) n = same_name m n || has ms n

-- these, and behind them each name that does not stand before itself
abbrev pub firsts : List Bytes → List Bytes → List Bytes
firsts ms [] = ms
firsts ms (n ∷ ns) = firsts (if has ms n then ms else ms ++ n ∷ []) ns

-- each of its names once, with its number
abbrev pub bindings_of : Variant → Numbers → List Binding
bindings_of v numbers = map (λ n. binding n (number_of numbers n)) (firsts [] (names_in v))

-- ---- files

abbrev pub line_of : PlanNode → NodeLine
line_of n = node_line n.level n.capacity n.first_child n.children

-- buffers from the n-th on, with their offsets
abbrev pub buffer_lines : ℕ → List ℕ → List Buffer → List BufferLine
buffer_lines n offsets [] = []
buffer_lines n offsets (b ∷ bs) = buffer_line nowhere b.level (get_or offsets n 0) b.size b.instance b.array ∷ buffer_lines (suc n) offsets bs

abbrev pub text_of : Leaf → LeafText
text_of l = leaf_text nowhere l.instance (bindings_of l.code.variant l.code.numbers) l.code.variant

abbrev pub array_of : EntryArray → ArrayLine
array_of a = array_line a.mode a.elem (name_at nowhere a.name) a.extents a.buffer

-- a plan file written out
abbrev pub written : PlanFile → PlanText
written f = record {
  nodes = map line_of f.plan.nodes;
  buffers = buffer_lines 0 f.plan.offsets f.plan.draft.buffers;
  leaves = map text_of f.plan.draft.leaves;
  arrays = map array_of f.arrays;
  term = whole (left_of (setting_of f.plan) f.plan.draft.term at_root);
}
