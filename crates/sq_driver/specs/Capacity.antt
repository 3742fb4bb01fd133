-- The first node that has less memory than the program's forms need there, and the fault that
-- tells it.
use Rattle.std.specs.Prelude.{◌≡◌, ℕ, List, [], ◌∷◌, Option, Some, None, slice_get}
use Rattle.sq_text.specs.Names.{Bytes}
use Rattle.sq_text.specs.declared.code.Phase.TheVariants as phase
use Rattle.sq_text.specs.declared.code.Code.TheVariants as code
use Rattle.sq_text.specs.declared.fault.Arg.TheVariants.{Word, Number}
use Rattle.sq_text.specs.declared.fault.Fault.{Fault}
use Rattle.sq_machfile.specs.declared.level.Level.{Level}
use Rattle.sq_machfile.specs.declared.node.Node.{Node}
use Rattle.sq_machfile.specs.Machines.{Hierarchy}
use Rattle.sq_spec.specs.declared.resolved.Resolved.{Resolved}
use Rattle.sq_compile.specs.Capacity.{IsFirstLack}
use Rattle.sq_driver.specs.Phases.{Inputs}
use Rattle.sq_driver.specs.Sources.{Sources}
use Rattle.sq_driver.specs.Races.{IsResolved}

abbrev pub level_name : Option Level → Bytes
level_name None = []
level_name (Some level) = level.name

-- its own name, and else that of its level
abbrev pub own_or_level : Option Level → Option Bytes → Bytes
own_or_level level None = level_name level
own_or_level level (Some own) = own

-- In a machine of version 2 each node has a name, in one of version 1 none has.
abbrev pub node_name : List Level → Option Node → Bytes
node_name levels None = []
node_name levels (Some n) = own_or_level (slice_get levels n.level) n.name

-- the line of a node that lacks names it, and has its need and its capacity
abbrev pub capacity_fault : Hierarchy → (node need capacity : ℕ) → Fault
capacity_fault machine node need capacity = record {
  phase = phase.Capacity;
  code = code.Capacity;
  place = None;
  args = Word (node_name machine.levels (slice_get machine.nodes node)) ∷ Number need ∷ Number capacity ∷ [];
}

-- of the nodes that lack for these forms the first has this fault
pub record IsFirstCapacityFault (forms : Resolved) (its : Fault) : Type 0 where
  pub node : ℕ
  pub need : ℕ
  pub capacity : ℕ
  pub first : IsFirstLack forms node need capacity
  pub is : its ≡ capacity_fault forms.machine.now node need capacity

-- of the nodes that lack for the program's forms the first has it
pub record IsFirstOfCapacity (inputs : Inputs) (its : Fault) : Type 0 where
  pub sources : Sources inputs
  pub forms : Resolved
  pub are : IsResolved sources.tree sources.hierarchy sources.mapped forms
  pub first : IsFirstCapacityFault forms its

-- these are the forms of the program that the files hold
pub record AreFormsOf (inputs : Inputs) (forms : Resolved) : Type 0 where
  pub sources : Sources inputs
  pub are : IsResolved sources.tree sources.hierarchy sources.mapped forms
