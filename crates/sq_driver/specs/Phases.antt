-- The tables of the commands: their phases, the files that these read, and which are behind the opening of the bank.
use Rattle.std.specs.Prelude.{◌≡◌, ◌⊎◌, ℕ, List, [], ◌∷◌, Bool, true, false, ◌&&◌, Option, Some, None}
use Rattle.sq_port.specs.Ports.{Content}
use Rattle.sq_text.specs.declared.code.Phase.{Phase}
use Rattle.sq_text.specs.declared.code.Phase.TheVariants.{Program, Types, Machine, Mapping, Resolve, Race, Capacity, Plan as PlanPhase, Cost, Order, Input}
use Rattle.sq_words.specs.declared.words.Kind.{Kind}
use Rattle.sq_words.specs.declared.words.Kind.TheVariants.{Check, Fmt, Plan, Eval, Run, Demo, Compile, Tune, Span, Exec}
use Rattle.sq_words.specs.Words.{Role, program, mapping, machine, input, order, cost, plan_file, Way, first, last, seed, list, Files, no_files, named, Command}
use Rattle.sq_report.specs.Demo.{demo_program, demo_mapping, demo_machine}
use Rattle.sq_demo.specs.Data.{demo_data}

-- the phases of a command, in order
abbrev pub phases : Kind → List Phase
phases Check = Program ∷ Types ∷ []
phases Fmt = Program ∷ []
phases Plan = Program ∷ Types ∷ Machine ∷ Mapping ∷ Resolve ∷ Race ∷ Capacity ∷ []
phases Eval = Program ∷ Types ∷ Machine ∷ Mapping ∷ Resolve ∷ Race ∷ Input ∷ []
phases Run = Program ∷ Types ∷ Machine ∷ Mapping ∷ Resolve ∷ Race ∷ Capacity ∷ Order ∷ Input ∷ []
phases Demo = Program ∷ Types ∷ Machine ∷ Mapping ∷ Resolve ∷ Race ∷ Capacity ∷ Order ∷ Input ∷ []
phases Compile = Program ∷ Types ∷ Machine ∷ Mapping ∷ Resolve ∷ Race ∷ Capacity ∷ PlanPhase ∷ []
phases Tune = Program ∷ Types ∷ Machine ∷ Mapping ∷ []
phases Span = Program ∷ Types ∷ Machine ∷ Mapping ∷ Resolve ∷ Race ∷ Capacity ∷ Cost ∷ []
phases Exec = PlanPhase ∷ Order ∷ Input ∷ []

-- a command on a plan file reads it, others write one or none
abbrev pub plan_role : Kind → Option Role
plan_role Exec = Some plan_file
plan_role kind = None

-- what the file is for that is read when a phase begins, where the words name one
abbrev pub role_of : Kind → Phase → Option Role
role_of kind Program = Some program
role_of kind Machine = Some machine
role_of kind Mapping = Some mapping
role_of kind PlanPhase = plan_role kind
role_of kind Cost = Some cost
role_of kind Order = Some order
role_of kind Input = Some input
role_of kind phase = None

-- whether a command opens the bank
abbrev pub opens : Kind → Bool
opens Run = true
opens Demo = true
opens Exec = true
opens kind = false

-- whether a command's mapping may have tunables of several alternatives
abbrev pub varies : Kind → Bool
varies Tune = true
varies kind = false

-- whether a command's plan and its arrays are those of a plan file, and not of a program
abbrev pub is_filed : Kind → Bool
is_filed Exec = true
is_filed kind = false

-- whether a phase comes behind the opening, where there is one
abbrev pub is_late : Phase → Bool
is_late Input = true
is_late phase = false

abbrev pub is_open_at : Kind → Phase → Bool
is_open_at kind phase = is_late phase && opens kind

abbrev pub file_for : Files → Option Role → Option (List ℕ)
file_for files None = None
file_for files (Some role) = named files role

-- the file that is read when a phase begins
abbrev pub file_of : Command → Phase → Option (List ℕ)
file_of command phase = file_for command.files (role_of command.kind phase)

-- what a command works on: what its files hold, and what it has by itself, each by what it is for
abbrev pub Inputs : Type 0
Inputs = Role → Option (List ℕ)

-- the number of a seed
abbrev pub seed_in : Way → ℕ
seed_in (seed n) = n
seed_in first = 0
seed_in last = 0
seed_in list = 0

-- the texts of the demo of a number
abbrev pub demo_inputs : ℕ → Inputs
demo_inputs n program = Some demo_program
demo_inputs n mapping = Some demo_mapping
demo_inputs n machine = Some demo_machine
demo_inputs n input = Some (demo_data n)
demo_inputs n role = None

-- the texts that a command has by itself: the demo those of its number, the others none
abbrev pub own_inputs : Kind → Way → Inputs
own_inputs Demo way role = demo_inputs (seed_in way) role
own_inputs kind way role = None

-- what a file holds, and where none is named this
abbrev pub text_or : Option (List ℕ) → Content → Option (List ℕ) → Option (List ℕ)
text_or own c None = own
text_or own c (Some name) = c name

abbrev pub text_of : Content → Option (List ℕ) → Option (List ℕ)
text_of c file = text_or None c file

abbrev pub inputs_of : Content → Command → Inputs
inputs_of c command role = text_or (own_inputs command.kind command.way role) c (named command.files role)

-- what the files hold is told, or the command has no file
abbrev pub IsTold : Command → Option Content → Content → Type 0
IsTold command told c = (told ≡ Some c) ⊎ (command.files ≡ no_files)
