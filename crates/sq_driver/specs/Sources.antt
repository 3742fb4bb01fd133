-- The machine and the mapping that texts are, and the first fault of a text that is none.
use Rattle.std.specs.Prelude.{ℕ, List, Some}
use Rattle.sq_text.specs.declared.fault.Fault.{Fault}
use Rattle.sq_text.specs.Faults.{IsFirst}
use Rattle.sq_ast.specs.declared.program.Program.{Program as Tree}
use Rattle.sq_machfile.specs.declared.level.Level.{Level}
use Rattle.sq_machfile.specs.Machines.{Hierarchy, WithinLimits, StandsFor as IsHierarchyOf, MachineFault}
use Rattle.sq_mapping.specs.declared.mapping.Mapping.{Mapping}
use Rattle.sq_mapfile.specs.Mappings.{StandsFor as IsMappingOf, MappingFault}
use Rattle.sq_words.specs.Words.{program, mapping, machine}
use Rattle.sq_driver.specs.Phases.{Inputs}
use Rattle.sq_driver.specs.Holding.{Holds}
use Rattle.sq_driver.specs.Programs.{IsProgramText}

-- the text stands for this machine, which keeps the limits
pub record IsMachineText (text : List ℕ) (hierarchy : Hierarchy) : Type 0 where
  pub stands : IsHierarchyOf text hierarchy
  pub within : WithinLimits hierarchy

-- the text isn't a machine's, or is too long, and has this fault before all others
abbrev pub IsFirstMachineFault : List ℕ → Fault → Type 0
IsFirstMachineFault text its = IsFirst (MachineFault text) (Some its)

-- the text stands for this mapping of a program onto a machine of these levels, and has no fault
pub record IsMappingText (tree : Tree) (levels : List Level) (text : List ℕ) (mapped : Mapping) : Type 0 where
  pub stands : IsMappingOf levels text mapped
  pub faultless : (its : Fault) → MappingFault tree levels text its → ⊥

-- the text is no mapping of the program onto such a machine, or is too long, and has this fault before all others
abbrev pub IsFirstMappingFault : Tree → List Level → List ℕ → Fault → Type 0
IsFirstMappingFault tree levels text its = IsFirst (MappingFault tree levels text) (Some its)

-- what the program, the machine and the mapping of a command are
pub record Sources (inputs : Inputs) : Type 0 where
  pub tree : Tree
  pub hierarchy : Hierarchy
  pub mapped : Mapping
  pub program_is : Holds IsProgramText (inputs program) tree
  pub machine_is : Holds IsMachineText (inputs machine) hierarchy
  pub mapping_is : Holds (IsMappingText tree hierarchy.levels) (inputs mapping) mapped

-- the machine's text has this fault before all others
abbrev pub IsFirstOfMachine : Inputs → Fault → Type 0
IsFirstOfMachine inputs its = Holds IsFirstMachineFault (inputs machine) its

-- the mapping's text has this fault before all others, for the program and the machine that the other files hold
pub record IsFirstOfMapping (inputs : Inputs) (its : Fault) : Type 0 where
  pub tree : Tree
  pub hierarchy : Hierarchy
  pub program_is : Holds IsProgramText (inputs program) tree
  pub machine_is : Holds IsMachineText (inputs machine) hierarchy
  pub first : Holds (IsFirstMappingFault tree hierarchy.levels) (inputs mapping) its
