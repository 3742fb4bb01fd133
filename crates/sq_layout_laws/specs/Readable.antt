-- Lines that can be read: their names are words, their numbers are such as a token may be, and their tasks stand in a
-- program.
use Rattle.std.specs.Prelude.{◌≡◌, ℕ, ◌<◌, ◌≤◌, ◌^◌, true, List, [], ◌∷◌}
use Rattle.std.specs.List.{All, Contains, list_all}
use Rattle.sq_num.specs.declared.Elem.TheVariants.{Long}
use Rattle.sq_num.specs.Elements.{IsValue}
use Rattle.sq_text.specs.Names.{Bytes}
use Rattle.sq_lexer.specs.Bytes.{is_letter, is_in_word, first_is}
use Rattle.sq_ast.specs.declared.program.Program.{Program}
use Rattle.sq_ast.specs.declared.program.Variant.{Variant}
use Rattle.sq_ast.specs.Given.{IsGiven}
use Rattle.sq_ast.specs.declared.program.VariantKind.TheVariants.{Leaf}
use Rattle.sq_plantext.specs.Grammar.{most_levels}
use Rattle.sq_plantext.specs.declared.text.NodeLine.{NodeLine}
use Rattle.sq_plantext.specs.declared.text.BufferLine.{BufferLine}
use Rattle.sq_plantext.specs.declared.text.Binding.{Binding}
use Rattle.sq_plantext.specs.declared.text.LeafText.{LeafText}
use Rattle.sq_plantext.specs.declared.text.ArrayLine.{ArrayLine}
use Rattle.sq_plantext.specs.declared.text.SlotText.{SlotText}
use Rattle.sq_plantext.specs.declared.text.ViewText.{ViewText}
use Rattle.sq_plantext.specs.declared.text.EventText.{EventText}
use Rattle.sq_plantext.specs.declared.text.EventText.TheVariants as event
use Rattle.sq_plantext.specs.declared.text.TermText.{TermText}
use Rattle.sq_plantext.specs.declared.text.TermText.TheOpen.{TermText-F}
use Rattle.sq_plantext.specs.declared.text.TermText.TheFolds.{rec-TermText}
use Rattle.sq_plantext.specs.declared.text.PlanText.{PlanText}
use Rattle.sq_planfile.specs.Limits.{depth}

-- ---- tokens

-- a letter, and behind it what may stand in a word
pub record IsWord (w : Bytes) : Type 0 where
  pub letter : first_is is_letter w ≡ true
  pub inside : list_all is_in_word w ≡ true

-- a number that a token may be
abbrev pub IsShort : ℕ → Type 0
IsShort n = n < 2 ^ 63

abbrev pub AreShort : List ℕ → Type 0
AreShort ns = All IsShort ns

-- a task of a program that some text stands for
pub record IsOfText (v : Variant) : Type 0 where
  pub program : Program
  pub given : IsGiven program
  pub there : Contains program.tasks v

-- ---- lines

abbrev pub IsReadableNode : NodeLine → Type 0
IsReadableNode n = AreShort (n.level ∷ n.capacity ∷ n.first_child ∷ n.children ∷ [])

pub record IsReadableBuffer (b : BufferLine) : Type 0 where
  pub numbers : AreShort (b.level ∷ b.offset ∷ b.size ∷ [])
  pub instance : IsWord b.instance
  pub array : IsWord b.array

pub record IsReadableBinding (b : Binding) : Type 0 where
  pub name : IsWord b.name
  pub value : IsValue Long b.value

pub record IsReadableLeaf (l : LeafText) : Type 0 where
  pub instance : IsWord l.instance
  pub numbers : All IsReadableBinding l.numbers
  pub task : IsOfText l.task
  pub leaf : l.task.kind ≡ Leaf

pub record IsReadableArray (a : ArrayLine) : Type 0 where
  pub name : IsWord a.name.name
  pub extents : AreShort a.extents
  pub buffer : IsShort a.buffer

-- ---- events

abbrev pub IsReadableSlot : SlotText → Type 0
IsReadableSlot s = IsShort s.buffer × IsShort s.at

pub record IsReadableView (v : ViewText) : Type 0 where
  pub slot : IsReadableSlot v.slot
  pub extents : AreShort v.extents
  pub strides : AreShort v.strides

abbrev pub IsReadableEvent : EventText → Type 0
IsReadableEvent (event.Copy from to bytes) = IsReadableSlot from × IsReadableSlot to × IsShort bytes
IsReadableEvent (event.Fill to e count value) = IsReadableSlot to × IsShort count × IsValue Long value
IsReadableEvent (event.Acc op e from to count) = IsReadableSlot from × IsReadableSlot to × IsShort count
IsReadableEvent (event.Run leaf views path) = IsShort leaf × All IsReadableView views × AreShort path

-- ---- terms

abbrev pub each : {X : Type 0} → (X → Type 0) → List X → Type 0
each is [] = Unit {0}
each is (t ∷ ts) = is t × each is ts

abbrev pub readable_step : (X : Type 0) → (X → TermText) → (X → Type 0) → TermText-F X → Type 0
readable_step X text is (TermText-F.Seq parts) = each is parts
readable_step X text is (TermText-F.Par parts) = each is parts
readable_step X text is (TermText-F.At place node buffers body) = IsShort node × AreShort buffers × is body
readable_step X text is (TermText-F.Act place e) = IsReadableEvent e

abbrev pub IsReadableTerm : TermText → Type 0
IsReadableTerm = rec-TermText (Type 0) readable_step

-- ---- files

pub record IsReadable (x : PlanText) : Type 0 where
  pub nodes : All IsReadableNode x.nodes
  pub buffers : All IsReadableBuffer x.buffers
  pub leaves : All IsReadableLeaf x.leaves
  pub arrays : All IsReadableArray x.arrays
  pub term : IsReadableTerm x.term
  -- no more brackets are open at once than may be
  pub deep : depth x.term ≤ most_levels
