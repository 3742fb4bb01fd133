-- The first fault of each phase, by what the files of the words hold.
use Rattle.std.specs.Prelude.{Bool, true, false}
use Rattle.sq_text.specs.declared.code.Phase.{Phase}
use Rattle.sq_text.specs.declared.code.Phase.TheVariants.{Program, Types, Machine, Mapping, Resolve, Race, Capacity, Plan, Cost, Order, Input}
use Rattle.sq_text.specs.declared.fault.Fault.{Fault}
use Rattle.sq_ast.specs.declared.program.Program.{Program as Tree}
use Rattle.sq_words.specs.declared.words.Kind.{Kind}
use Rattle.sq_words.specs.declared.words.Kind.TheVariants.{Compile, Exec}
use Rattle.sq_words.specs.Words.{program}
use Rattle.sq_driver.specs.Phases.{Inputs, is_filed, varies}
use Rattle.sq_driver.specs.Holding.{Holds}
use Rattle.sq_driver.specs.Programs.{IsProgramText, ProgramFault, IsFirstTypeFault}
use Rattle.sq_driver.specs.Sources.{IsFirstOfMachine, IsFirstOfMapping}
use Rattle.sq_driver.specs.Races.{IsFirstOfResolve, IsFirstOfRace}
use Rattle.sq_driver.specs.Capacity.{IsFirstOfCapacity}
use Rattle.sq_driver.specs.Choosing.{IsFirstOfChoices}
use Rattle.sq_driver.specs.Costing.{IsFirstOfCost}
use Rattle.sq_driver.specs.Filing.{IsFirstOfText}
use Rattle.sq_driver.specs.Executing.{IsFirstOfFile, IsFirstOfArrays}
use Rattle.sq_driver.specs.Orders.{IsFirstOfOrder}
use Rattle.sq_driver.specs.Entry.{IsFirstOfInput}

-- the program's text has this fault before all others
abbrev pub IsFirstOfProgram : Inputs → Fault → Type 0
IsFirstOfProgram inputs its = Holds ProgramFault (inputs program) its

-- the program's names, kinds or parameters have this fault before all others
pub record IsFirstOfTypes (inputs : Inputs) (its : Fault) : Type 0 where
  pub tree : Tree
  pub program_is : Holds IsProgramText (inputs program) tree
  pub first : IsFirstTypeFault tree its

-- the mapping has this fault before all others, where its tunables may have several alternatives or not
abbrev pub IsFirstOfMappings : (varied : Bool) → Inputs → Fault → Type 0
IsFirstOfMappings false inputs its = IsFirstOfMapping inputs its
IsFirstOfMappings true inputs its = IsFirstOfChoices inputs its

-- the plan file of a command has this fault before all others
abbrev pub IsFirstOfPlan : Kind → Inputs → Fault → Type 0
IsFirstOfPlan Compile inputs its = IsFirstOfText inputs its
IsFirstOfPlan Exec inputs its = IsFirstOfFile inputs its
IsFirstOfPlan kind inputs its = ⊥

-- the data of a command has this fault before all others, where its arrays are those of a program or of a plan file
abbrev pub IsFirstOfData : (filed : Bool) → Inputs → Fault → Type 0
IsFirstOfData false inputs its = IsFirstOfInput inputs its
IsFirstOfData true inputs its = IsFirstOfArrays inputs its

-- the phase of a command has this fault before all others
abbrev pub IsFirstOf : Kind → Phase → Inputs → Fault → Type 0
IsFirstOf kind Program inputs its = IsFirstOfProgram inputs its
IsFirstOf kind Types inputs its = IsFirstOfTypes inputs its
IsFirstOf kind Machine inputs its = IsFirstOfMachine inputs its
IsFirstOf kind Mapping inputs its = IsFirstOfMappings (varies kind) inputs its
IsFirstOf kind Resolve inputs its = IsFirstOfResolve inputs its
IsFirstOf kind Race inputs its = IsFirstOfRace inputs its
IsFirstOf kind Capacity inputs its = IsFirstOfCapacity inputs its
IsFirstOf kind Plan inputs its = IsFirstOfPlan kind inputs its
IsFirstOf kind Cost inputs its = IsFirstOfCost inputs its
IsFirstOf kind Order inputs its = IsFirstOfOrder inputs its
IsFirstOf kind Input inputs its = IsFirstOfData (is_filed kind) inputs its
