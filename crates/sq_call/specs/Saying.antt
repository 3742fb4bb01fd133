-- What a call says of its words and files.
use Rattle.std.specs.Prelude.{◌≡◌, ◌⊎◌, ℕ, List, [], Option, Some, None}
use Rattle.sq_port.specs.Ports.{Content}
use Rattle.sq_text.specs.declared.code.Phase.{Phase}
use Rattle.sq_tree.specs.Bank.{BankSeen}
use Rattle.sq_tree.specs.Raw.{opened_seen}
use Rattle.sq_words.specs.Words.{Command}
use Rattle.sq_driver.specs.declared.outside.status.Status.{Status}
use Rattle.sq_driver.specs.declared.outside.status.Status.TheVariants.{Done, Refused, Trapped, Usage, FileFault, SinkFault, NoMemory, Absent}
use Rattle.sq_driver.specs.Phases.{file_of}
use Rattle.sq_driver.specs.Meaning.{Answer, usage, IsCause}
use Rattle.sq_driver.specs.Banks.{whole}
use Rattle.sq_driver.specs.Outcome.{status_for, out_text, err_text}
use Rattle.sq_driver.specs.Top.{BankOf, IsSaid, IsDemoDone}

-- the cause of an answer: usage where the words are no command, and else what the files say
abbrev pub IsCauseIn : Option Command → Content → Answer → Type 0
IsCauseIn None c answer = answer ≡ usage
IsCauseIn (Some command) c answer = IsSaid answer × IsCause command c answer

-- a bank that was never opened
abbrev pub fresh_bank : BankSeen
fresh_bank = opened_seen 0 None

-- the status and the texts are, whole, those of an answer with its cause, which leaves of a fresh bank what it says
pub record Tells (command : Option Command) (c : Content) (status : Status) (out err : List ℕ) : Type 0 where
  pub answer : Answer
  pub cause : IsCauseIn command c answer
  pub status_is : status ≡ status_for answer
  pub out_is : out ≡ out_text answer
  pub err_is : err ≡ err_text answer
  pub bank : BankSeen
  pub bank_after : BankOf command (Some c) answer whole fresh_bank bank

-- memory was wanting, and there is no text
pub record Lacks (status : Status) (out err : List ℕ) : Type 0 where
  pub status_is : status ≡ NoMemory
  pub out_is : out ≡ []
  pub err_is : err ≡ []

abbrev pub Says : Option Command → Content → Status → List ℕ → List ℕ → Type 0
Says command c status out err = Tells command c status out err ⊎ Lacks status out err

-- what the words and the files say is answered, and nothing else but want of memory
abbrev pub SaysOnly : Option Command → Content → Status → Type 0
SaysOnly None c status = (status ≡ Usage) ⊎ (status ≡ NoMemory)
SaysOnly (Some command) c status = (answer : Answer) → IsSaid answer → IsCause command c answer
    → (status ≡ status_for answer) ⊎ (status ≡ NoMemory)

-- all that a call says
pub record Called (command : Option Command) (c : Content) (status : Status) (out err : List ℕ) : Type 0 where
  pub says : Says command c status out err
  pub only : SaysOnly command c status
  pub demo : IsDemoDone command status

-- a file that the words name isn't among those that are handed in
pub record NamesNone (command : Option Command) (c : Content) : Type 0 where
  pub its : Command
  pub is : command ≡ Some its
  pub phase : Phase
  pub name : List ℕ
  pub file : file_of its phase ≡ Some name
  pub none : c name ≡ None

-- ---- the status as a number

abbrev pub number_of : Status → ℕ
number_of Done = 0
number_of Refused = 1
number_of Trapped = 2
number_of Usage = 3
number_of FileFault = 4
number_of SinkFault = 5
number_of NoMemory = 6
number_of Absent = 7

-- all that a call says, its status as this number
pub record Numbered (command : Option Command) (c : Content) (number : ℕ) (out err : List ℕ) : Type 0 where
  pub status : Status
  pub number_is : number ≡ number_of status
  pub called : Called command c status out err

-- ---- what becomes of the top call's answer: a sink that failed lacked memory, and for want of memory there is no text

abbrev pub status_said : Status → Status
status_said SinkFault = NoMemory
status_said status = status

abbrev pub text_said : Status → List ℕ → List ℕ
text_said SinkFault text = []
text_said NoMemory text = []
text_said status text = text
