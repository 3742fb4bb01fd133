-- What keeps a plan from being written: too many events, too many levels, too long a text.
use Rattle.std.specs.Prelude.{◌≡◌, ℕ, suc, ◌+◌, ◌<◌, max, None, List, [], ◌∷◌}
use Rattle.sq_text.specs.declared.code.Code.{Code}
use Rattle.sq_text.specs.declared.code.Code.TheVariants.{LimitEvents, TooDeep, LimitFile}
use Rattle.sq_text.specs.declared.code.Phase.TheVariants.{Plan}
use Rattle.sq_text.specs.declared.fault.Fault.{Fault}
use Rattle.sq_text.specs.First.{InTurn}
use Rattle.sq_lexer.specs.Faults.{fault, IsTooLong}
use Rattle.sq_plantext.specs.Grammar.{most_levels}
use Rattle.sq_plantext.specs.Layout.{laid_out}
use Rattle.sq_plantext.specs.declared.text.EventText.{EventText}
use Rattle.sq_plantext.specs.declared.text.EventText.TheVariants as event
use Rattle.sq_plantext.specs.declared.text.TermText.{TermText}
use Rattle.sq_plantext.specs.declared.text.TermText.TheOpen.{TermText-F}
use Rattle.sq_plantext.specs.declared.text.TermText.TheFolds.{fold-TermText}
use Rattle.sq_planfile.specs.File.{PlanFile}
use Rattle.sq_planfile.specs.Written.{written}

-- ---- events

abbrev pub sum : List ℕ → ℕ
sum [] = 0
sum (n ∷ ns) = n + sum ns

abbrev pub size_step : TermText-F ℕ → ℕ
size_step (TermText-F.Seq parts) = sum parts
size_step (TermText-F.Par parts) = sum parts
size_step (TermText-F.At place node buffers body) = body
size_step (TermText-F.Act place e) = 1

-- the most events of a plan file
abbrev pub most_events : ℕ
most_events = 65536

-- how many events stand in a term
abbrev pub size : TermText → ℕ
size = fold-TermText ℕ size_step

-- ---- levels

abbrev pub greatest : List ℕ → ℕ
greatest [] = 0
greatest (n ∷ ns) = max n (greatest ns)

-- a leaf call has its views in brackets, and a list of numbers behind these; a view has lists of its own
abbrev pub event_depth : EventText → ℕ
event_depth (event.Run leaf [] path) = 1
event_depth (event.Run leaf (v ∷ views) path) = 2
event_depth _ = 0

abbrev pub depth_step : TermText-F ℕ → ℕ
depth_step (TermText-F.Seq parts) = suc (greatest parts)
depth_step (TermText-F.Par parts) = suc (greatest parts)
depth_step (TermText-F.At place node buffers body) = suc body
depth_step (TermText-F.Act place e) = event_depth e

-- How many brackets are open at once in the lines of a term. No other line of a plan file opens more than one, but those
-- of a leaf's task, which is a part of a program and has levels of its own.
abbrev pub depth : TermText → ℕ
depth = fold-TermText ℕ depth_step

-- ---- faults: they have no place, and speak of the text that would be written

abbrev pub no_place : Code → Fault
no_place code = fault Plan code None

pub record EventsFault (f : PlanFile) (g : Fault) : Type 0 where
  pub many : most_events < size (written f).term
  pub is : g ≡ no_place LimitEvents

pub record DepthFault (f : PlanFile) (g : Fault) : Type 0 where
  pub deep : most_levels < depth (written f).term
  pub is : g ≡ no_place TooDeep

pub record LengthFault (f : PlanFile) (g : Fault) : Type 0 where
  pub long : IsTooLong Plan (laid_out (written f))
  pub is : g ≡ no_place LimitFile

-- the first of them that holds
abbrev pub TextFault : PlanFile → Fault → Type 0
TextFault f = InTurn (EventsFault f) (InTurn (DepthFault f) (LengthFault f))
