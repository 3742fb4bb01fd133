-- The faults of plan files, and which of them is first.
use Rattle.std.specs.Prelude.{◌≡◌, ℕ, ◌⊎◌, List, [], ◌∷◌, ◌++◌, Some, map}
use Rattle.std.specs.List.{slice_get}
use Rattle.sq_text.specs.declared.place.Place.{Place}
use Rattle.sq_text.specs.declared.code.Code.{Code}
use Rattle.sq_text.specs.declared.code.Code.TheVariants as code
use Rattle.sq_text.specs.declared.code.Phase.TheVariants.{Plan}
use Rattle.sq_text.specs.declared.fault.Arg.TheVariants.{Word}
use Rattle.sq_text.specs.declared.fault.Fault.{Fault}
use Rattle.sq_text.specs.First.{InTurn}
use Rattle.sq_text.specs.Found.{breach, fault_by}
use Rattle.sq_text.specs.Names.{Bytes}
use Rattle.sq_lexer.specs.declared.token.Token.{Token}
use Rattle.sq_lexer.specs.Tokens.{AreTokens}
use Rattle.sq_lexer.specs.Faults.{fault, FitsFile, HasFault}
use Rattle.sq_ir.specs.Machines.{AreNodes}
use Rattle.sq_ir.specs.Written.{Env, at_root}
use Rattle.sq_plantext.specs.Faults.{SyntaxFault}
use Rattle.sq_plantext.specs.Grammar.{StandsFor, most_levels}
use Rattle.sq_plantext.specs.declared.text.BufferLine.{BufferLine}
use Rattle.sq_plantext.specs.declared.text.LeafText.{LeafText}
use Rattle.sq_plantext.specs.declared.text.ArrayLine.{ArrayLine}
use Rattle.sq_plantext.specs.declared.text.TermText.{TermText}
use Rattle.sq_plantext.specs.declared.text.TermText.TheOpen.{TermText-F}
use Rattle.sq_plantext.specs.declared.text.TermText.TheFolds.{rec-TermText}
use Rattle.sq_plantext.specs.declared.text.PlanText.{PlanText}
use Rattle.sq_planfile.specs.File.{PlanFile}
use Rattle.sq_planfile.specs.Files.{nodes_of, file_of}
use Rattle.sq_planfile.specs.Limits.{no_place}
use Rattle.sq_planfile.specs.Sound.{IsLeafText, IsBufferLine, IsArrayLine, IsEventText, IsScope, IsSound, inside}

abbrev pub at : Code → Place → Fault
at c place = fault Plan c (Some place)

abbrev pub named : Code → Place → Bytes → Fault
named c place name = fault_by Plan (breach c place (Word name ∷ []))

-- ---- lines

abbrev pub NodeFault : PlanText → Fault → Type 0
NodeFault x f = (AreNodes (nodes_of x) → ⊥) × (f ≡ no_place code.BadNode)

pub record LeafFault (x : PlanText) (f : Fault) : Type 0 where
  pub index : ℕ
  pub leaf : LeafText
  pub there : slice_get x.leaves index ≡ Some leaf
  pub bad : IsLeafText leaf → ⊥
  pub is : f ≡ named code.BadLeaf leaf.place leaf.instance

pub record BufferFault (x : PlanText) (f : Fault) : Type 0 where
  pub index : ℕ
  pub buffer : BufferLine
  pub there : slice_get x.buffers index ≡ Some buffer
  pub bad : IsBufferLine (nodes_of x) buffer → ⊥
  pub is : f ≡ at code.BadBuffer buffer.place

pub record ArrayFault (x : PlanText) (f : Fault) : Type 0 where
  pub before : List ArrayLine
  pub array : ArrayLine
  pub later : List ArrayLine
  pub there : x.arrays ≡ before ++ array ∷ later
  pub bad : IsArrayLine x.buffers before array → ⊥
  pub is : f ≡ named code.BadArray array.name.place array.name.name

-- ---- events

-- a fault at this place
abbrev pub BadAt : Type 1
BadAt = Env → (buffers : List ℕ) → Place → Type 0

abbrev pub some_part : {X : Type 0} → (X → BadAt) → List X → BadAt
some_part bad [] env bs p = ⊥
some_part bad (t ∷ ts) env bs p = bad t env bs p ⊎ some_part bad ts env bs p

-- what stands inside a scope is no fault of the scope
abbrev pub bad_step : PlanText → (X : Type 0) → (X → TermText) → (X → BadAt) → TermText-F X → BadAt
bad_step x X text bad (TermText-F.Seq parts) env bs p = some_part bad parts env bs p
bad_step x X text bad (TermText-F.Par parts) env bs p = some_part bad parts env bs p
bad_step x X text bad (TermText-F.At place node buffers body) env bs p =
    ((IsScope x env node buffers → ⊥) × (p ≡ place)) ⊎ bad body (inside x env node) (buffers ++ bs) p
bad_step x X text bad (TermText-F.Act place e) env bs p = (IsEventText x env bs e → ⊥) × (p ≡ place)

-- an event or a scope of a term, at this place, is bad
abbrev pub IsBadIn : PlanText → TermText → BadAt
IsBadIn x = rec-TermText BadAt (bad_step x)

pub record EventFault (x : PlanText) (f : Fault) : Type 0 where
  pub place : Place
  pub bad : IsBadIn x x.term at_root (map (λ a. a.buffer) x.arrays) place
  pub is : f ≡ at code.BadEvent place

-- ---- the first

-- where nothing of these groups holds, and of a group that does the first
abbrev pub LineFault : PlanText → Fault → Type 0
LineFault x = InTurn (NodeFault x) (InTurn (LeafFault x) (InTurn (BufferFault x) (InTurn (ArrayFault x) (EventFault x))))

-- the text, which is no longer than a plan file may be, stands for these lines by the grammar
pub record Writes (text : List ℕ) (x : PlanText) : Type 0 where
  pub tokens : List Token
  pub tokens_of : AreTokens text tokens
  pub fits : FitsFile Plan text
  pub grammar : StandsFor most_levels tokens x

pub record IsBadSyntax (text : List ℕ) (f : Fault) : Type 0 where
  pub tokens : List Token
  pub tokens_of : AreTokens text tokens
  pub faulty : SyntaxFault tokens f

pub record IsBadLine (text : List ℕ) (f : Fault) : Type 0 where
  pub lines : PlanText
  pub writes : Writes text lines
  pub broken : LineFault lines f

-- Every fault of a plan file up to its events: of the file and its tokens; where there is none, of the grammar; and
-- where there is none, of its lines, code by code.
abbrev pub PlanFault : List ℕ → Fault → Type 0
PlanFault text = InTurn (HasFault Plan text) (InTurn (IsBadSyntax text) (IsBadLine text))

-- ---- texts

-- the text stands for this file
pub record Means (text : List ℕ) (f : PlanFile) : Type 0 where
  pub lines : PlanText
  pub writes : Writes text lines
  pub sound : IsSound lines
  pub is : f ≡ file_of lines
