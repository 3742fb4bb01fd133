-- What the choices of a mapping with alternatives are, and what `tune` writes.
use Rattle.std.specs.Prelude.{◌≡◌, ◌⊎◌, ℕ, List, Some, None}
use Rattle.sq_text.specs.declared.fault.Fault.{Fault}
use Rattle.sq_text.specs.Faults.{IsFirst}
use Rattle.sq_ast.specs.declared.program.Program.{Program as Tree}
use Rattle.sq_machfile.specs.declared.level.Level.{Level}
use Rattle.sq_machfile.specs.Machines.{Hierarchy}
use Rattle.sq_mapping.specs.declared.mapping.Mapping.{Mapping}
use Rattle.sq_mapfile.specs.declared.choices.Choices.{Choices}
use Rattle.sq_mapfile.specs.Choices.{ChoicesFault}
use Rattle.sq_mapfile.specs.Made.{StandFor as AreChoicesOf, AreReadAlone}
use Rattle.sq_forms.specs.Forms.{IsFirstMet}
use Rattle.sq_ir.specs.declared.plan.Plan.{Plan}
use Rattle.sq_spec.specs.declared.resolved.Resolved.{Resolved}
use Rattle.sq_race.specs.Race.{IsFirstRace}
use Rattle.sq_compile.specs.Compiled.{IsPlanOf}
use Rattle.sq_tune.specs.declared.row.RowEnd.{RowEnd}
use Rattle.sq_tune.specs.declared.row.RowEnd.TheVariants.{Traffic, Refused}
use Rattle.sq_tune.specs.declared.row.Table.{Table}
use Rattle.sq_tune.specs.Rows.{IsTable}
use Rattle.sq_tune_text.specs.Text.{table_text}
use Rattle.sq_tune_text.specs.Traffic.{traffic_of}
use Rattle.sq_words.specs.Words.{program, mapping, machine}
use Rattle.sq_driver.specs.Phases.{Inputs}
use Rattle.sq_driver.specs.Holding.{Holds}
use Rattle.sq_driver.specs.Programs.{IsProgramText}
use Rattle.sq_driver.specs.Sources.{IsMachineText}
use Rattle.sq_driver.specs.Races.{IsResolved, IsFirstRaceFault}
use Rattle.sq_driver.specs.Capacity.{IsFirstCapacityFault}

-- ---- the choices

-- the text stands for these choices of a mapping of a program onto a machine of these levels; the mapping of each is
-- that of the text with its alternatives alone
pub record AreChoicesText (tree : Tree) (levels : List Level) (text : List ℕ) (choices : Choices) : Type 0 where
  pub stand : AreChoicesOf levels text choices
  pub alone : AreReadAlone tree levels text choices
  pub faultless : (its : Fault) → ChoicesFault tree levels text its → ⊥

-- the text has no choices, or too many, or is too long, and has this fault before all others
abbrev pub IsFirstChoicesFault : Tree → List Level → List ℕ → Fault → Type 0
IsFirstChoicesFault tree levels text its = IsFirst (ChoicesFault tree levels text) (Some its)

-- the text of the choices has it, for the program and the machine that the other files hold
pub record IsFirstOfChoices (inputs : Inputs) (its : Fault) : Type 0 where
  pub tree : Tree
  pub hierarchy : Hierarchy
  pub program_is : Holds IsProgramText (inputs program) tree
  pub machine_is : Holds IsMachineText (inputs machine) hierarchy
  pub first : Holds (IsFirstChoicesFault tree hierarchy.levels) (inputs mapping) its

-- ---- the row of a mapping

-- the forms of the program have no race, and the plan that is good for it has this traffic
pub record IsAccepted (tree : Tree) (hierarchy : Hierarchy) (mapped : Mapping) (traffic : ℕ) : Type 0 where
  pub forms : Resolved
  pub are : IsResolved tree hierarchy mapped forms
  pub free : IsFirstRace forms None
  pub plan : Plan
  pub plan_is : IsPlanOf forms plan
  pub traffic_is : traffic ≡ traffic_of hierarchy plan

-- the first race of the forms has this fault
pub record IsRacing (tree : Tree) (hierarchy : Hierarchy) (mapped : Mapping) (its : Fault) : Type 0 where
  pub forms : Resolved
  pub are : IsResolved tree hierarchy mapped forms
  pub first : IsFirstRaceFault forms its

-- they have no race, and the first node that lacks memory for them has it
pub record IsLacking (tree : Tree) (hierarchy : Hierarchy) (mapped : Mapping) (its : Fault) : Type 0 where
  pub forms : Resolved
  pub are : IsResolved tree hierarchy mapped forms
  pub free : IsFirstRace forms None
  pub first : IsFirstCapacityFault forms its

-- the traffic, or the first fault of the phases resolve, race and capacity
abbrev pub IsRow : Tree → Hierarchy → Mapping → RowEnd → Type 0
IsRow tree hierarchy mapped (Traffic traffic) = IsAccepted tree hierarchy mapped traffic
IsRow tree hierarchy mapped (Refused its) = IsFirstMet tree mapped its
    ⊎ (IsRacing tree hierarchy mapped its ⊎ IsLacking tree hierarchy mapped its)

-- ---- the table

-- the text of the table of all choices of the mapping, each with its row; the best one is accepted, and no choice that
-- is accepted has less traffic
pub record GivesTable (inputs : Inputs) (out : List ℕ) : Type 0 where
  pub tree : Tree
  pub hierarchy : Hierarchy
  pub choices : Choices
  pub program_is : Holds IsProgramText (inputs program) tree
  pub machine_is : Holds IsMachineText (inputs machine) hierarchy
  pub choices_are : Holds (AreChoicesText tree hierarchy.levels) (inputs mapping) choices
  pub table : Table
  pub table_is : IsTable (IsRow tree hierarchy) choices table
  pub text : out ≡ table_text choices table
