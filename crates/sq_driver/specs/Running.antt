-- Commands that run a plan: what is known of them before their order is read.
use Rattle.std.specs.Prelude.{◌≡◌, ◌⊎◌, ◌++◌, ◌∷◌, [], ℕ, Bool, true, List, Option, Some, None, Result, Ok, Err, length, map}
use Rattle.sq_port.specs.Ports.{Content}
use Rattle.sq_text.specs.declared.code.Phase.{Phase}
use Rattle.sq_text.specs.declared.code.Phase.TheVariants.{Order as OrderPhase, Input}
use Rattle.sq_text.specs.declared.fault.Fault.{Fault}
use Rattle.sq_ir.specs.Plans.{IsGood}
use Rattle.sq_tree.specs.Bank.{BankSeen, bytes_at, bytes_in, leaves_in}
use Rattle.sq_tree.specs.Runs.{TellsFirst}
use Rattle.sq_tree.specs.declared.runs.RunEnd.{RunEnd}
use Rattle.sq_tree.specs.declared.runs.RunEnd.TheVariants.{Trapped, SinkFault}
use Rattle.sq_planfile.specs.File.{PlanFile}
use Rattle.sq_launch.specs.Arrays.{wants_of, root_text}
use Rattle.sq_launch.specs.Starts.{HaveRoom, IsStart, read_parts, BanksHaveRoom, PlacesHaveSizes, SizesAreSmall, FilledAreStarts}
use Rattle.sq_root.specs.declared.place.Place.{Place}
use Rattle.sq_root.specs.Places.{parts}
use Rattle.sq_arrays.specs.Arrays.{Wanted}
use Rattle.sq_words.specs.declared.words.Kind.{Kind}
use Rattle.sq_words.specs.Words.{Command, Files, Order, Role, Way, input, with_file, command_with}
use Rattle.sq_report.specs.declared.trap.Trap.{Trap}
use Rattle.sq_driver.specs.Phases.{Inputs, inputs_of, opens, own_inputs, phases, text_of}
use Rattle.sq_driver.specs.Orders.{ListHolds, HeldBy}
use Rattle.sq_driver.specs.Shown.{shown}
use Rattle.sq_driver.specs.Givens.{Given, Unfit}
use Rattle.sq_driver.specs.Faults.{IsFirstOf}
use Rattle.sq_driver.specs.Meaning.{AllPassed, Gives, IsTrapless, Traps}
use Rattle.sq_driver.specs.Steps.{Stops}
use Rattle.sq_driver.specs.Works.{IsWorkOf}
use Rattle.sq_driver.specs.declared.outside.end.End.{End}

-- a command that runs a plan, but for its data, its order and whether it is traced
pub record Runner : Type 0 where
  pub kind : Kind
  pub files : Files

abbrev pub command_by : Runner → (name : List ℕ) → Order → (traced : Bool) → Command
command_by its name said traced = command_with its.kind (with_file input name its.files) said traced

-- ---- what a command makes of the data

-- the end of a run, and this text of the arrays that it left, are what the command gives
abbrev pub EndsAs : Kind → Way → Inputs → (text : List ℕ) → Result (Unit {0}) RunEnd → Type 0
EndsAs kind way x text (Ok value) = Gives kind way x text × IsTrapless kind x
EndsAs kind way x text (Err (Trapped trap path)) =
    Traps kind x (record { kind = trap.kind; place = trap.place; path = path })
EndsAs kind way x text (Err SinkFault) = Unit {0}

-- the command gives a text, or traps
abbrev pub HasEnd : Kind → Way → Inputs → Type 0
HasEnd kind way x = ((text : List ℕ) × Gives kind way x text × IsTrapless kind x)
    ⊎ ((trap : Trap) × Traps kind x trap)

-- however a run from these memories ends, it ends as the command does
pub record EndsByRuns (kind : Kind) (way : Way) (x : Inputs) (f : PlanFile) (nodes : List (List ℕ)) : Type 0 where
  pub fit : (its : Fault) → IsFirstOf kind Input x its → ⊥
  pub tells : (now : List (List ℕ)) → map length now ≡ map length nodes → (result : Result (Unit {0}) RunEnd)
      → TellsFirst f.plan (bytes_in nodes) (bytes_in now) result
      → EndsAs kind way x (root_text f.plan f.arrays (bytes_at now 0)) result
  pub has : HasEnd kind way x

-- its fault is that of the data; without one, the runs from where the data leads end as it does
pub record MeetsData (kind : Kind) (way : Way) (x : Inputs) (f : PlanFile) : Type 0 where
  pub unfit : (its : Fault) → Unfit (wants_of f.arrays) (x input) its → IsFirstOf kind Input x its
  pub ends : (nodes : List (List ℕ)) → IsStart f.plan f.arrays nodes
      → Given (wants_of f.arrays) (x input) (read_parts f.plan f.arrays nodes) → EndsByRuns kind way x f nodes

-- ---- what is known

-- The phases before the order are passed, and this is the plan, which is good, with its arrays, which have room.
pub record HoldsWork (its : Runner) (name : List ℕ) (said : Order) (traced : Bool) (told : Option Content)
    (f : PlanFile) : Type 0 where
  pub opens : opens its.kind ≡ true
  pub own : (role : Role) → own_inputs its.kind said.way role ≡ None
  pub shows : (text : List ℕ) → shown its.kind said.way text ≡ text
  pub before : List Phase
  pub split : phases its.kind ≡ before ++ OrderPhase ∷ Input ∷ []
  pub passed : (c : Content) → told ≡ Some c → AllPassed (command_by its name said traced) c before
  pub work : IsWorkOf (command_by its name said traced) told f
  pub meets : (c : Content) → told ≡ Some c
      → MeetsData its.kind said.way (inputs_of c (command_by its name said traced)) f

-- and a plan that is to be run is good, and its arrays have room
pub record MayRun (f : PlanFile) : Type 0 where
  pub good : IsGood (leaves_in f.plan) f.plan
  pub room : HaveRoom f.plan f.arrays

-- the phases before the data are passed too
pub record HoldsOrdered (its : Runner) (name : List ℕ) (said : Order) (traced : Bool) (told : Option Content)
    (f : PlanFile) (held : List ℕ) : Type 0 where
  pub work : HoldsWork its name said traced told f
  pub passed : (c : Content) → told ≡ Some c
      → AllPassed (command_by its name said traced) c (work.before ++ OrderPhase ∷ [])
  pub order_is : HeldBy said.way (λ held. (c : Content) → told ≡ Some c → ListHolds (text_of c said.file) held) held

-- ---- the data in the root

-- the values of the data stand in these places of the root, and else how the data stops the command
abbrev pub FillsRoot : List Wanted → List Place → Option Content → List ℕ → BankSeen → Result (Unit {0}) End → Type 0
FillsRoot ws places told name now (Ok value) =
    (c : Content) → told ≡ Some c → Given ws (c name) (parts places (bytes_at now.nodes 0))
FillsRoot ws places told name now (Err end) = Stops true Input told (Some name) (λ c its. Unfit ws (c name) its) end

-- what is known of the arrays of a plan, and of banks into which their data was read
pub record LaunchLaws : Type 0 where
  pub room : BanksHaveRoom
  pub sizes : PlacesHaveSizes
  pub small : SizesAreSmall
  pub starts : FilledAreStarts
