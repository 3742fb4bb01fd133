-- What an answer writes, and how a command ends.
use Rattle.std.specs.Prelude.{◌≡◌, ◌≤◌, ℕ, List, [], ◌++◌, take, Option, Result, Ok, Err, codes}
use Rattle.sq_port.specs.Ports.{Content, Rose, Gains, GainsPrefix}
use Rattle.sq_text.specs.declared.code.Phase.{Phase}
use Rattle.sq_tree.specs.Bank.{BankSeen}
use Rattle.sq_driver.specs.declared.outside.status.Status.{Status}
use Rattle.sq_driver.specs.declared.outside.status.Status.TheVariants.{Done as DoneStatus, Refused as RefusedStatus, Trapped as TrappedStatus, Usage as UsageStatus, FileFault as FileFaultStatus, NoMemory as NoMemoryStatus, Absent as AbsentStatus}
use Rattle.sq_driver.specs.declared.outside.end.End.{End}
use Rattle.sq_driver.specs.declared.outside.end.End.TheVariants.{Usage, Absent, FileFault, Refused, Trapped, NoMemory, SinkFault}
use Rattle.sq_report.specs.Answers.{named_line, fault_line, trap_line}
use Rattle.sq_driver.specs.Texts.{usage_line}
use Rattle.sq_words.specs.Words.{Command}
use Rattle.sq_driver.specs.Meaning.{Answer, done, refused, trapped, usage, file_fault, no_memory, absent, Means}
use Rattle.sq_driver.specs.Banks.{Writing, whole, cut_out, cut_err, BankAfter}

abbrev pub status_for : Answer → Status
status_for (done out trace) = DoneStatus
status_for (refused phase its) = RefusedStatus
status_for (trapped trap trace) = TrappedStatus
status_for usage = UsageStatus
status_for (file_fault phase name) = FileFaultStatus
status_for no_memory = NoMemoryStatus
status_for (absent phase name) = AbsentStatus

-- the text for `out`
abbrev pub out_text : Answer → List ℕ
out_text (done out trace) = out
out_text answer = []

-- the trace of an answer
abbrev pub trace_for : Answer → List ℕ
trace_for (done out trace) = trace
trace_for (trapped trap trace) = trace
trace_for answer = []

-- the line that names an answer
abbrev pub line_for : Answer → List ℕ
line_for (done out trace) = []
line_for (refused phase its) = fault_line its
line_for (trapped trap trace) = trap_line trap
line_for usage = usage_line
line_for (file_fault phase name) = named_line (codes "fault ") name
line_for no_memory = codes "no memory\n"
line_for (absent phase name) = named_line (codes "absent ") name

-- the text for `err`
abbrev pub err_text : Answer → List ℕ
err_text answer = trace_for answer ++ line_for answer

abbrev pub IsDone : Answer → Type 0
IsDone (done out trace) = Unit {0}
IsDone answer = ⊥

-- what is seen of the outside: what the files hold, what each sink got and how often a put to it failed, and the bank
pub record Outside : Type 0 where
  pub told : Option Content
  pub out : Option (List ℕ)
  pub out_faults : ℕ
  pub err : Option (List ℕ)
  pub err_faults : ℕ
  pub bank : BankSeen

-- `out` got the text of an answer and `err` this one, and no put failed
pub record IsWhole (answer : Answer) (text : List ℕ) (old now : Outside) : Type 0 where
  pub out : Gains old.out now.out (out_text answer)
  pub err : Gains old.err now.err text
  pub out_faults : now.out_faults ≡ old.out_faults
  pub err_faults : now.err_faults ≡ old.err_faults

-- a put to `out` failed: the answer is Done, `out` got a prefix of its text, and `err` all that stands before
pub record IsCutOut (answer : Answer) (text : List ℕ) (old now : Outside) : Type 0 where
  pub done : IsDone answer
  pub out : GainsPrefix old.out now.out (out_text answer)
  pub err : Gains old.err now.err text
  pub out_later : old.out_faults ≤ now.out_faults
  pub out_faults : Rose old.out_faults now.out_faults
  pub err_faults : now.err_faults ≡ old.err_faults

-- a put to `err` failed: `err` got a prefix of its text, and `out` nothing
pub record IsCutErr (got : List ℕ) (answer : Answer) (text : List ℕ) (old now : Outside) : Type 0 where
  pub out : Gains old.out now.out []
  pub count : ℕ
  pub prefix : got ≡ take count text
  pub err : Gains old.err now.err got
  pub out_faults : now.out_faults ≡ old.out_faults
  pub err_later : old.err_faults ≤ now.err_faults
  pub err_faults : Rose old.err_faults now.err_faults

-- what the sinks got of an answer
abbrev pub Puts : Writing → Answer → List ℕ → Outside → Outside → Type 0
Puts whole = IsWhole
Puts cut_out = IsCutOut
Puts (cut_err got) = IsCutErr got

-- an end, and the answer that it stands for
abbrev pub IsEndOf : Answer → End → Type 0
IsEndOf answer Usage = answer ≡ usage
IsEndOf answer (Absent name) = (phase : Phase) × (answer ≡ absent phase name.now)
IsEndOf answer (FileFault name) = (phase : Phase) × (answer ≡ file_fault phase name.now)
IsEndOf answer (Refused its) = (phase : Phase) × (answer ≡ refused phase its)
IsEndOf answer (Trapped trap) = (trace : List ℕ) × (answer ≡ trapped trap trace)
IsEndOf answer NoMemory = answer ≡ no_memory
IsEndOf answer SinkFault = ⊥

-- an answer that comes behind events, which may have a trace
abbrev pub HasEvents : Answer → Type 0
HasEvents (done out trace) = Unit {0}
HasEvents (trapped trap trace) = Unit {0}
HasEvents answer = ⊥

-- the result of a command is that of its answer, whose texts but for the line were put so
abbrev pub ResultFor : Answer → Writing → Result (Unit {0}) End → Type 0
ResultFor answer whole (Ok value) = IsDone answer
ResultFor answer cut_out (Ok value) = ⊥
ResultFor answer (cut_err got) (Ok value) = ⊥
ResultFor answer whole (Err end) = IsEndOf answer end
ResultFor answer cut_out (Err end) = end ≡ SinkFault
ResultFor answer (cut_err got) (Err end) = (end ≡ SinkFault) × HasEvents answer

-- how a command ended: its answer with the cause, and what it wrote and left of the bank
pub record Ended (command : Command) (old now : Outside) (result : Result (Unit {0}) End) : Type 0 where
  pub answer : Answer
  pub writing : Writing
  pub means : Means command old.told answer
  pub result_is : ResultFor answer writing result
  pub puts : Puts writing answer (trace_for answer) old now
  pub bank_after : BankAfter command old.told answer writing old.bank now.bank
