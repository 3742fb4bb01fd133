-- What each phase leaves behind.
use Rattle.std.specs.Prelude.{◌≡◌, ℕ, List, [], Bool, false, Option, Some, None, Result, Ok, Err, ◌≤◌}
use Rattle.sq_port.specs.Ports.{Content, Rose, Gains, GainsPrefix}
use Rattle.sq_lexer.specs.Faults.{FitsFile, IsTooLong}
use Rattle.sq_text.specs.declared.code.Phase.{Phase}
use Rattle.sq_text.specs.declared.code.Phase.TheVariants.{Program}
use Rattle.sq_text.specs.declared.fault.Fault.{Fault}
use Rattle.sq_tree.specs.Bank.{BankSeen}
use Rattle.sq_ast.specs.declared.program.Program.{Program as Tree}
use Rattle.sq_driver.specs.declared.outside.end.End.{End}
use Rattle.sq_driver.specs.declared.outside.end.End.TheVariants.{Usage, Absent, FileFault, Refused, Trapped, NoMemory, SinkFault}
use Rattle.sq_words.specs.Words.{Command}
use Rattle.sq_driver.specs.Holding.{Holds, HoldsOnly}
use Rattle.sq_driver.specs.Programs.{IsProgramText, ProgramFault, too_long_fault}
use Rattle.sq_driver.specs.Meaning.{Answer, Means}
use Rattle.sq_driver.specs.Banks.{whole, BankAfter}
use Rattle.sq_driver.specs.Outcome.{out_text, trace_for, IsEndOf}

-- how a phase stops a command, by its file and its faults; for want of memory only where the bank isn't open
abbrev pub Stops : Bool → Phase → Option Content → Option (List ℕ) → (Content → Fault → Type 0) → End → Type 0
Stops is_open phase told file Fails Usage = ⊥
Stops is_open phase told file Fails (Absent name) = (file ≡ Some name.now)
    × ((c : Content) → told ≡ Some c → c name.now ≡ None)
Stops is_open phase told file Fails (FileFault name) = file ≡ Some name.now
Stops is_open phase told file Fails (Refused its) = (c : Content) → told ≡ Some c → Fails c its
Stops is_open phase told file Fails (Trapped trap) = ⊥
Stops is_open phase told file Fails NoMemory = is_open ≡ false
Stops is_open phase told file Fails SinkFault = ⊥

-- a command stops so, without a trace, and leaves the bank so
pub record Stopped (command : Command) (told : Option Content) (bank now_bank : BankSeen) (end : End) : Type 0 where
  pub answer : Answer
  pub means : Means command told answer
  pub is : IsEndOf answer end
  pub silent : (out_text answer ≡ []) × (trace_for answer ≡ [])
  pub bank_after : BankAfter command told answer whole bank now_bank

-- a text no longer than the phase allows, and else how the phase ends
abbrev pub ReadsFitting : Phase → Option Content → List ℕ → Result (List ℕ) End → Type 0
ReadsFitting phase told name (Ok text) = FitsFile phase text × ((c : Content) → told ≡ Some c → c name ≡ Some text)
ReadsFitting phase told name (Err end) = Stops false phase told (Some name)
    (λ c its. (text : List ℕ) × (c name ≡ Some text) × IsTooLong phase text × (its ≡ too_long_fault phase)) end

-- the text is this value's, no other's, and has no fault
pub record HoldsRight {A : Type 0} (Is : List ℕ → A → Type 0) (Fails : List ℕ → Fault → Type 0)
    (given : Option (List ℕ)) (value : A) : Type 0 where
  pub one : HoldsOnly Is given value
  pub no_fault : (its : Fault) → Holds Fails given its → ⊥

-- the value that a phase's file holds, and else how the phase ends
abbrev pub ReadsRight : {A : Type 0} → (List ℕ → A → Type 0) → (List ℕ → Fault → Type 0) → Phase → Option Content
    → List ℕ → Result A End → Type 0
ReadsRight Is Fails phase told name (Ok value) = (c : Content) → told ≡ Some c → HoldsRight Is Fails (c name) value
ReadsRight Is Fails phase told name (Err end) = Stops false phase told (Some name) (λ c its. Holds Fails (c name) its)
    end

-- ---- program

abbrev pub HoldsTree : Option (List ℕ) → Tree → Type 0
HoldsTree = HoldsRight IsProgramText ProgramFault

abbrev pub ReadsTree : Option Content → List ℕ → Result Tree End → Type 0
ReadsTree = ReadsRight IsProgramText ProgramFault Program

-- the text, or where the sink failed a prefix of it
abbrev pub WroteOut : Option (List ℕ) → Option (List ℕ) → ℕ → ℕ → List ℕ → Result (Unit {0}) End → Type 0
WroteOut out now_out faults now_faults text (Ok value) = Gains out now_out text × (now_faults ≡ faults)
WroteOut out now_out faults now_faults text (Err SinkFault) = GainsPrefix out now_out text × Rose faults now_faults
    × (faults ≤ now_faults)
WroteOut out now_out faults now_faults text (Err end) = ⊥

-- or, for want of memory, nothing of it
abbrev pub WroteOutOrLacked : Option (List ℕ) → Option (List ℕ) → ℕ → ℕ → List ℕ → Result (Unit {0}) End → Type 0
WroteOutOrLacked out now_out faults now_faults text (Err NoMemory) = (now_out ≡ out) × (now_faults ≡ faults)
WroteOutOrLacked out now_out faults now_faults text result = WroteOut out now_out faults now_faults text result
