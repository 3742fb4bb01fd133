-- The answer to some words: its cause, its texts, its counts and its bank.
use Rattle.std.specs.Prelude.{◌≡◌, ◌⊎◌, ℕ, Option, Some, None, Result}
use Rattle.sq_port.specs.Ports.{Content, Rose}
use Rattle.sq_driver.specs.declared.outside.status.Status.{Status}
use Rattle.sq_driver.specs.declared.outside.status.Status.TheVariants.{Done, Usage, FileFault, SinkFault, NoMemory, Absent}
use Rattle.sq_driver.specs.declared.outside.end.End.{End}
use Rattle.sq_tree.specs.Bank.{BankSeen}
use Rattle.sq_words.specs.Words.{Command, demo_of}
use Rattle.sq_driver.specs.Phases.{IsTold}
use Rattle.sq_driver.specs.Meaning.{Answer, done, refused, trapped, usage, file_fault, absent, IsCause, Means}
use Rattle.sq_driver.specs.Banks.{Writing, whole, cut_out, cut_err, BankAfter}
use Rattle.sq_driver.specs.Outcome.{status_for, trace_for, err_text, Outside, Puts, ResultFor}

-- the statuses that are neither about a file nor about a sink
abbrev pub IsUndisturbed : Status → Type 0
IsUndisturbed FileFault = ⊥
IsUndisturbed SinkFault = ⊥
IsUndisturbed Absent = ⊥
IsUndisturbed status = Unit {0}

-- the cause of an answer: usage just where the words are no command
abbrev pub IsAnswer : Option Command → Option Content → Answer → Type 0
IsAnswer None told answer = answer ≡ usage
IsAnswer (Some command) told answer = Means command told answer

-- what the answer leaves of the bank
abbrev pub BankOf : Option Command → Option Content → Answer → Writing → BankSeen → BankSeen → Type 0
BankOf None told answer writing old now = now ≡ old
BankOf (Some command) told answer writing old now = BankAfter command told answer writing old now

-- the answer's status, or SinkFault where a put failed
abbrev pub StatusFor : Answer → Writing → Status → Type 0
StatusFor answer whole status = status ≡ status_for answer
StatusFor answer cut_out status = status ≡ SinkFault
StatusFor answer (cut_err got) status = status ≡ SinkFault

-- the counts of the files: an answer about a file has its own that rose and leaves the other, and every other answer
-- leaves both
abbrev pub FilesFor : Answer → ℕ → ℕ → ℕ → ℕ → Type 0
FilesFor (absent phase name) faults now_faults misses now_misses = Rose misses now_misses × (now_faults ≡ faults)
FilesFor (file_fault phase name) faults now_faults misses now_misses = Rose faults now_faults × (now_misses ≡ misses)
FilesFor answer faults now_faults misses now_misses = (now_faults ≡ faults) × (now_misses ≡ misses)

-- an answer that has its cause is written, the counts of the files are such, and the bank is as it says
pub record Answered (command : Option Command) (old now : Outside) (faults now_faults misses now_misses : ℕ)
    (status : Status) : Type 0 where
  pub answer : Answer
  pub writing : Writing
  pub cause : IsAnswer command old.told answer
  pub status_is : StatusFor answer writing status
  pub puts : Puts writing answer (err_text answer) old now
  pub files : FilesFor answer faults now_faults misses now_misses
  pub bank_after : BankOf command old.told answer writing old.bank now.bank

-- the same before the line that names the answer is written
pub record Executed (command : Option Command) (old now : Outside) (result : Result (Unit {0}) End) : Type 0 where
  pub answer : Answer
  pub writing : Writing
  pub cause : IsAnswer command old.told answer
  pub result_is : ResultFor answer writing result
  pub puts : Puts writing answer (trace_for answer) old now
  pub bank_after : BankOf command old.told answer writing old.bank now.bank

-- what a line that was put, or cut, makes of that
pub record Finished (answer : Answer) (writing : Writing) (old now : Outside) (status : Status) : Type 0 where
  pub last : Writing
  pub later : (command : Option Command) (told : Option Content) (bank now_bank : BankSeen)
      → BankOf command told answer writing bank now_bank → BankOf command told answer last bank now_bank
  pub status_is : StatusFor answer last status
  pub puts : Puts last answer (err_text answer) old now

-- an answer that tells what the files hold
abbrev pub IsSaid : Answer → Type 0
IsSaid (done out trace) = Unit {0}
IsSaid (refused phase its) = Unit {0}
IsSaid (trapped trap trace) = Unit {0}
IsSaid (absent phase name) = Unit {0}
IsSaid answer = ⊥

-- the status is that of what the files say, or want of memory
abbrev pub IsExplained : Option Command → Option Content → Status → Type 0
IsExplained None told status = status ≡ Usage
IsExplained (Some command) told status = (c : Content) → IsTold command told c → (status ≡ NoMemory)
    ⊎ ((answer : Answer) × IsSaid answer × IsCause command c answer × (status ≡ status_for answer))

-- the statuses that may stand in place of what the files say
abbrev pub IsFree : Status → Type 0
IsFree NoMemory = Unit {0}
IsFree FileFault = Unit {0}
IsFree SinkFault = Unit {0}
IsFree status = ⊥

-- what the files say is answered, or a failure in its place
abbrev pub IsOnly : Option Command → Option Content → Status → Type 0
IsOnly None told status = Unit {0}
IsOnly (Some command) told status = (c : Content) → IsTold command told c → (answer : Answer) → IsSaid answer
    → IsCause command c answer → (status ≡ status_for answer) ⊎ IsFree status

-- the demo of a number is done, or memory was wanting, or a put failed
abbrev pub IsDemoDone : Option Command → Status → Type 0
IsDemoDone command status = (n : ℕ) → command ≡ Some (demo_of n)
    → (status ≡ Done) ⊎ ((status ≡ NoMemory) ⊎ (status ≡ SinkFault))
