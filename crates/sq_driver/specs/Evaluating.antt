-- What each phase of `eval` leaves behind.
use Rattle.std.specs.Prelude.{◌≡◌, ◌≤◌, ◌⊎◌, ℕ, List, [], Option, Some, Result, Ok, Err}
use Rattle.sq_port.specs.Ports.{Content, Rose, Gains, GainsPrefix}
use Rattle.sq_text.specs.declared.code.Phase.TheVariants as phase
use Rattle.sq_text.specs.declared.fault.Fault.{Fault}
use Rattle.sq_ast.specs.declared.program.Program.{Program as Tree}
use Rattle.sq_types.specs.Sites.{TypeFault}
use Rattle.sq_machfile.specs.declared.level.Level.{Level}
use Rattle.sq_machfile.specs.Machines.{Hierarchy}
use Rattle.sq_mapping.specs.declared.mapping.Mapping.{Mapping}
use Rattle.sq_tree.specs.Bank.{BankSeen}
use Rattle.sq_leaf.specs.declared.shape.Shape.{Shape}
use Rattle.sq_work.specs.Meaning.{Outcome}
use Rattle.sq_flat.specs.Held.{Stored}
use Rattle.sq_flat.specs.Ends.{HoldsEnd}
use Rattle.sq_driver.specs.declared.outside.end.End.{End}
use Rattle.sq_driver.specs.declared.outside.end.End.TheVariants.{Refused, Trapped, NoMemory, SinkFault}
use Rattle.sq_words.specs.Words.{Command}
use Rattle.sq_driver.specs.Sources.{IsMachineText, IsFirstMachineFault, IsMappingText, IsFirstMappingFault}
use Rattle.sq_driver.specs.Meaning.{done, IsCause}
use Rattle.sq_driver.specs.Steps.{HoldsRight, HoldsTree, ReadsRight, Stopped}

-- the machine that a file holds, and else how the phase ends
abbrev pub ReadsMachine : Option Content → List ℕ → Result Hierarchy End → Type 0
ReadsMachine = ReadsRight IsMachineText IsFirstMachineFault phase.Machine

-- the mapping of the program onto a machine of these levels that a file holds, and else how the phase ends
abbrev pub ReadsMapping : Tree → List Level → Option Content → List ℕ → Result Mapping End → Type 0
ReadsMapping tree levels = ReadsRight (IsMappingText tree levels) (IsFirstMappingFault tree levels) phase.Mapping

-- the program of this name holds this tree, which has no fault of names, kinds and parameters
pub record HoldsProgram (told : Option Content) (name : List ℕ) (tree : Tree) : Type 0 where
  pub held : (c : Content) → told ≡ Some c → HoldsTree (c name) tree
  pub faultless : (f : Fault) → TypeFault tree f → ⊥

-- and the machine of that name this hierarchy
pub record HoldsMachine (told : Option Content) (name machine_name : List ℕ) (tree : Tree)
    (hierarchy : Hierarchy) : Type 0 where
  pub program : HoldsProgram told name tree
  pub held : (c : Content) → told ≡ Some c → HoldsRight IsMachineText IsFirstMachineFault (c machine_name) hierarchy

-- and the mapping of that name this mapping
pub record HoldsSources (told : Option Content) (name mapping_name machine_name : List ℕ) (tree : Tree)
    (hierarchy : Hierarchy) (mapped : Mapping) : Type 0 where
  pub machine : HoldsMachine told name machine_name tree hierarchy
  pub held : (c : Content) → told ≡ Some c → HoldsRight (IsMappingText tree hierarchy.levels)
      (IsFirstMappingFault tree hierarchy.levels) (c mapping_name) mapped

-- refused with such a fault, or memory ran out
abbrev pub EndsWith : (Fault → Type 0) → End → Type 0
EndsWith Fails (Refused its) = Fails its
EndsWith Fails NoMemory = Unit {0}
EndsWith Fails end = ⊥

-- ---- the run

-- the evaluation's end, where the source means this
abbrev pub EndsFlat : List Shape → Result Stored End → Outcome → Type 0
EndsFlat shapes (Ok arrays) outcome = HoldsEnd shapes arrays outcome
EndsFlat shapes (Err (Trapped trap)) (Ok after) = ⊥
EndsFlat shapes (Err (Trapped trap)) (Err its) = trap
    ≡ record { kind = its.trap.kind; place = its.trap.place; path = its.path }
EndsFlat shapes (Err NoMemory) outcome = Unit {0}
EndsFlat shapes (Err end) outcome = ⊥

-- a text with this cause was written whole
pub record IsWritten (command : Command) (told : Option Content) (out now_out : Option (List ℕ))
    (faults now_faults : ℕ) : Type 0 where
  pub text : List ℕ
  pub cause : (c : Content) → told ≡ Some c → IsCause command c (done text [])
  pub gained : Gains out now_out text
  pub same : now_faults ≡ faults

-- or a prefix of it, as the sink failed
pub record IsCutOff (command : Command) (told : Option Content) (out now_out : Option (List ℕ))
    (faults now_faults : ℕ) (end : End) : Type 0 where
  pub end_is : end ≡ SinkFault
  pub text : List ℕ
  pub cause : (c : Content) → told ≡ Some c → IsCause command c (done text [])
  pub gained : GainsPrefix out now_out text
  pub rose : Rose faults now_faults
  pub later : faults ≤ now_faults

-- or nothing, as the command stops before
pub record IsStopped (command : Command) (told : Option Content) (out now_out : Option (List ℕ))
    (faults now_faults : ℕ) (end : End) : Type 0 where
  pub out_is : now_out ≡ out
  pub faults_is : now_faults ≡ faults
  pub stopped : (bank : BankSeen) → Stopped command told bank bank end

abbrev pub Evaluates : Command → Option Content → Option (List ℕ) → Option (List ℕ) → ℕ → ℕ → Result (Unit {0}) End
    → Type 0
Evaluates command told out now_out faults now_faults (Ok value) = IsWritten command told out now_out faults now_faults
Evaluates command told out now_out faults now_faults (Err end) = IsCutOff command told out now_out faults now_faults
    end ⊎ IsStopped command told out now_out faults now_faults end
