-- What each command answers, by what its files hold.
use Rattle.std.specs.Prelude.{◌≡◌, ℕ, List, [], ◌∷◌, ◌++◌, Option, Some, None, codes}
use Rattle.sq_port.specs.Ports.{Content}
use Rattle.sq_text.specs.declared.code.Phase.{Phase}
use Rattle.sq_text.specs.declared.fault.Fault.{Fault}
use Rattle.sq_ast.specs.declared.program.Program.{Program as Tree}
use Rattle.sq_ast.specs.Canonical.{canonical}
use Rattle.sq_words.specs.declared.words.Kind.{Kind}
use Rattle.sq_words.specs.declared.words.Kind.TheVariants.{Check, Fmt, Plan, Eval, Run, Demo, Compile, Tune, Span, Exec}
use Rattle.sq_words.specs.Words.{program, Way, Command}
use Rattle.sq_driver.specs.Phases.{phases, file_of, Inputs, inputs_of, IsTold}
use Rattle.sq_driver.specs.Shown.{demo_text}
use Rattle.sq_driver.specs.Holding.{Holds}
use Rattle.sq_driver.specs.Programs.{IsProgramText}
use Rattle.sq_driver.specs.Entry.{GivesFlat, TrapsFlat}
use Rattle.sq_driver.specs.Reported.{GivesReport}
use Rattle.sq_driver.specs.Choosing.{GivesTable}
use Rattle.sq_driver.specs.Costing.{GivesSpan}
use Rattle.sq_driver.specs.Filing.{GivesFile}
use Rattle.sq_driver.specs.Executing.{GivesRun, TrapsRun}
use Rattle.sq_driver.specs.Faults.{IsFirstOf}
use Rattle.sq_report.specs.declared.trap.Trap.{Trap}

-- a phase's file is there, and the phase has no fault
pub record Passed (command : Command) (c : Content) (phase : Phase) : Type 0 where
  pub there : (name : List ℕ) → file_of command phase ≡ Some name → (text : List ℕ) × (c name ≡ Some text)
  pub no_fault : (its : Fault) → IsFirstOf command.kind phase (inputs_of c command) its → ⊥

abbrev pub AllPassed : Command → Content → List Phase → Type 0
AllPassed command c [] = Unit {0}
AllPassed command c (phase ∷ rest) = Passed command c phase × AllPassed command c rest

-- every phase before this one is passed
pub record Reached (command : Command) (c : Content) (phase : Phase) : Type 0 where
  pub before : List Phase
  pub after : List Phase
  pub split : phases command.kind ≡ before ++ phase ∷ after
  pub passed : AllPassed command c before

-- the canonical text of the program
pub record GivesCanonical (inputs : Inputs) (out : List ℕ) : Type 0 where
  pub tree : Tree
  pub program_is : Holds IsProgramText (inputs program) tree
  pub text : out ≡ canonical tree

-- the line that the demo makes of the arrays that the source makes of its data
pub record GivesLine (way : Way) (inputs : Inputs) (out : List ℕ) : Type 0 where
  pub arrays : List ℕ
  pub flat : GivesFlat inputs arrays
  pub text : out ≡ demo_text way arrays

-- the text for `out` of a command that is accepted and doesn't trap
abbrev pub Gives : Kind → Way → Inputs → List ℕ → Type 0
Gives Check way inputs out = out ≡ codes "ok\n"
Gives Fmt way inputs out = GivesCanonical inputs out
Gives Plan way inputs out = GivesReport inputs out
Gives Eval way inputs out = GivesFlat inputs out
Gives Run way inputs out = GivesFlat inputs out
Gives Demo way inputs out = GivesLine way inputs out
Gives Compile way inputs out = GivesFile inputs out
Gives Tune way inputs out = GivesTable inputs out
Gives Span way inputs out = GivesSpan inputs out
Gives Exec way inputs out = GivesRun inputs out

-- the first trap of a command that is accepted
abbrev pub Traps : Kind → Inputs → Trap → Type 0
Traps Eval inputs trap = TrapsFlat inputs trap
Traps Run inputs trap = TrapsFlat inputs trap
Traps Demo inputs trap = TrapsFlat inputs trap
Traps Exec inputs trap = TrapsRun inputs trap
Traps kind inputs trap = ⊥

-- nothing traps
abbrev pub IsTrapless : Kind → Inputs → Type 0
IsTrapless kind inputs = (trap : Trap) → Traps kind inputs trap → ⊥

-- an answer, with what it writes beside the line that names it
pub data Answer : Type 0 where
  done : (out trace : List ℕ) → Answer
  refused : (phase : Phase) (its : Fault) → Answer
  trapped : (trap : Trap) (trace : List ℕ) → Answer
  usage : Answer
  file_fault : (phase : Phase) (name : List ℕ) → Answer
  no_memory : Answer
  absent : (phase : Phase) (name : List ℕ) → Answer

-- the cause of an answer, where the files hold this
abbrev pub IsCause : Command → Content → Answer → Type 0
IsCause command c (done out trace) = AllPassed command c (phases command.kind)
    × Gives command.kind command.way (inputs_of c command) out × IsTrapless command.kind (inputs_of c command)
IsCause command c (refused phase its) = Reached command c phase × IsFirstOf command.kind phase (inputs_of c command) its
IsCause command c (trapped trap trace) = AllPassed command c (phases command.kind)
    × Traps command.kind (inputs_of c command) trap
IsCause command c usage = ⊥
IsCause command c (file_fault phase name) = (file_of command phase ≡ Some name) × Reached command c phase
IsCause command c no_memory = Unit {0}
IsCause command c (absent phase name) = (file_of command phase ≡ Some name) × Reached command c phase × (c name ≡ None)

-- a file that an answer names is one of the words
abbrev pub IsNamed : Command → Answer → Type 0
IsNamed command usage = ⊥
IsNamed command (file_fault phase name) = file_of command phase ≡ Some name
IsNamed command (absent phase name) = file_of command phase ≡ Some name
IsNamed command (done out trace) = Unit {0}
IsNamed command (refused phase its) = Unit {0}
IsNamed command (trapped trap trace) = Unit {0}
IsNamed command no_memory = Unit {0}

-- the cause of a command's answer
pub record Means (command : Command) (told : Option Content) (answer : Answer) : Type 0 where
  pub names : IsNamed command answer
  pub cause : (c : Content) → IsTold command told c → IsCause command c answer
