-- A command on a plan file: its faults, and how the plan runs.
use Rattle.std.specs.Prelude.{◌≡◌, ℕ, List, Some, None}
use Rattle.sq_text.specs.declared.fault.Fault.{Fault}
use Rattle.sq_text.specs.Faults.{IsFirst}
use Rattle.sq_leaf.specs.declared.trap.Trap.{Trap as LeafTrap}
use Rattle.sq_ir.specs.Events.{Bytes, Event}
use Rattle.sq_ir.specs.Runs.{State}
use Rattle.sq_ir.specs.Scopes.{Scope}
use Rattle.sq_tree.specs.Bank.{bytes_in}
use Rattle.sq_tree.specs.Runs.{IsFirst as IsFirstRun}
use Rattle.sq_planfile.specs.File.{PlanFile}
use Rattle.sq_planfile.specs.Faults.{Means}
use Rattle.sq_checker.specs.Laws.{FileFault}
use Rattle.sq_launch.specs.Arrays.{wants_of, bytes_text}
use Rattle.sq_launch.specs.Starts.{IsStart, read_parts}
use Rattle.sq_words.specs.Words.{input, plan_file}
use Rattle.sq_report.specs.declared.trap.Trap.{Trap}
use Rattle.sq_driver.specs.Phases.{Inputs}
use Rattle.sq_driver.specs.Holding.{Holds}
use Rattle.sq_driver.specs.Givens.{Given, Unfit}

-- ---- faults

-- the text is no plan file, or its plan has two events that clash or buffers without room, and has this fault before all
-- others
abbrev pub IsFirstFileFault : List ℕ → Fault → Type 0
IsFirstFileFault text its = IsFirst (FileFault text) (Some its)

abbrev pub IsFirstOfFile : Inputs → Fault → Type 0
IsFirstOfFile inputs its = Holds IsFirstFileFault (inputs plan_file) its

-- the data file isn't the text of the `in` and `inout` arrays of the plan file, and has this fault
pub record IsFirstOfArrays (inputs : Inputs) (its : Fault) : Type 0 where
  pub file : PlanFile
  pub file_is : Holds Means (inputs plan_file) file
  pub unfit : Unfit (wants_of file.arrays) (inputs input) its

-- ---- runs

-- The run of a plan file under picks 0: it begins with the data, and with zeros elsewhere, and has this last state.
pub record FirstRun (inputs : Inputs) : Type 0 where
  pub file : PlanFile
  pub file_is : Holds Means (inputs plan_file) file
  pub nodes : List (List ℕ)
  pub start : IsStart file.plan file.arrays nodes
  pub given : Given (wants_of file.arrays) (inputs input) (read_parts file.plan file.arrays nodes)
  pub last : State Event Scope Bytes LeafTrap
  pub first : IsFirstRun file.plan (bytes_in nodes) last

-- the texts of the `out` and `inout` arrays that it leaves, where nothing traps
pub record GivesRun (inputs : Inputs) (out : List ℕ) : Type 0 where
  pub run : FirstRun inputs
  pub done : run.last.ended ≡ None
  pub text : out ≡ bytes_text run.file.plan run.file.arrays run.last.bytes

-- the trap that it ends with
pub record TrapsRun (inputs : Inputs) (its : Trap) : Type 0 where
  pub run : FirstRun inputs
  pub cause : LeafTrap
  pub path : List ℕ
  pub ended : run.last.ended ≡ Some (record { path = path; cause = cause })
  pub is : its ≡ record { kind = cause.kind; place = cause.place; path = path }
