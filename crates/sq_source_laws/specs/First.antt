-- The first fault of a text is one: at one place one rule is broken first, and what it names is what stands there.
use Rattle.std.specs.Prelude.{◌≡◌, ℕ, List, Some}
use Rattle.sq_text.specs.declared.fault.Fault.{Fault}
use Rattle.sq_text.specs.Faults.{IsFirst}
use Rattle.sq_ast.specs.declared.program.Program.{Program}
use Rattle.sq_machfile.specs.declared.level.Level.{Level}
use Rattle.sq_machfile.specs.Machines.{MachineFault}
use Rattle.sq_mapfile.specs.Mappings.{MappingFault}

-- of a machine file,
abbrev pub MachinesFailOnce : Type 0
MachinesFailOnce = (text : List ℕ) (f g : Fault) → IsFirst (MachineFault text) (Some f)
    → IsFirst (MachineFault text) (Some g) → f ≡ g

-- and of a mapping file, for a program and a machine of these levels.
abbrev pub MappingsFailOnce : Type 0
MappingsFailOnce = (program : Program) (levels : List Level) (text : List ℕ) (f g : Fault)
    → IsFirst (MappingFault program levels text) (Some f) → IsFirst (MappingFault program levels text) (Some g) → f ≡ g
