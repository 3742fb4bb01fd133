-- What a command leaves of the bank.
use Rattle.std.specs.Prelude.{◌≡◌, ◌⊎◌, List, ℕ, [], ◌∷◌, ◌++◌, replicate, take, Bool, true, false}
use Rattle.std.specs.Prelude.{Option, Some, None, if◌then◌else◌}
use Rattle.sq_port.specs.Ports.{Content}
use Rattle.sq_leaf.specs.declared.trap.Trap.{Trap}
use Rattle.sq_ir.specs.Tree.{ready}
use Rattle.sq_ir.specs.Events.{Event}
use Rattle.sq_ir.specs.Runs.{Trap as Ending}
use Rattle.sq_ir.specs.Traffic.{no_counts, nothing_carried, deepest, more_by}
use Rattle.sq_ir.specs.declared.plan.Plan.{Plan}
use Rattle.sq_sched.specs.Rests.{Rest}
use Rattle.sq_planfile.specs.File.{PlanFile}
use Rattle.sq_launch.specs.Arrays.{wants_of, root_text}
use Rattle.sq_launch.specs.Starts.{IsStart, read_parts}
use Rattle.sq_tree.specs.Bank.{BankSeen, bytes_at, bytes_in}
use Rattle.sq_tree.specs.Runs.{HasRun, KeepsRoom}
use Rattle.sq_tree.specs.Trace.{event_line, trace_text}
use Rattle.sq_orders.specs.Chosen.{chosen_answer, chosen_next}
use Rattle.sq_words.specs.Words.{input, order, Command}
use Rattle.sq_driver.specs.Phases.{opens, is_open_at, inputs_of, IsTold}
use Rattle.sq_report.specs.declared.trap.Trap.{Trap as Shown}
use Rattle.sq_driver.specs.Orders.{ListHolds, HeldBy}
use Rattle.sq_driver.specs.Givens.{Given}
use Rattle.sq_driver.specs.Works.{IsWorkOf}
use Rattle.sq_driver.specs.Shown.{shown}
use Rattle.sq_driver.specs.Meaning.{Answer, done, refused, trapped, usage, file_fault, no_memory, absent}

-- the texts of an answer were put whole, or a put to `out` failed, or one to `err`, which got these bytes
pub data Writing : Type 0 where
  whole : Writing
  cut_out : Writing
  cut_err : (got : List ℕ) → Writing

-- opened once in this call, with the plan that the files say
pub record IsOpenFor (command : Command) (told : Option Content) (file : PlanFile) (old now : BankSeen) : Type 0 where
  pub once : now.openings ≡ more_by old.openings 1
  pub is : now.plan ≡ Some file.plan
  pub work : IsWorkOf command told file

-- nothing was performed since, and each node has its capacity
pub record IsUnperformed (plan : Plan) (seen : BankSeen) : Type 0 where
  pub events : (told : List Event) → seen.events ≡ Some told → told ≡ []
  pub counts : seen.counts ≡ no_counts
  pub edges : seen.edges ≡ replicate (deepest plan.nodes) nothing_carried

-- opened, and nothing performed: what the data began to give may stand in the places of the arrays that are read, and
-- zeros stand in all other bytes
pub record IsUnrun (command : Command) (told : Option Content) (old now : BankSeen) : Type 0 where
  pub file : PlanFile
  pub opened : IsOpenFor command told file old now
  pub none : IsUnperformed file.plan now
  pub zero : IsStart file.plan file.arrays now.nodes

-- Opened, the data as read put into the plan's zeros, and from that start on events of the plan performed under the
-- answers of the order that the words ask for, each inside its node, with room for the live buffers in each state. Where
-- the run is over, nothing is left that is ready, and it has ended with this trap or with none. `Traced` tells of just
-- these events.
pub record IsRun (command : Command) (told : Option Content) (Traced : Plan → List Event → Type 0)
    (Over : Rest Trap → Type 0) (old now : BankSeen) : Type 0 where
  pub file : PlanFile
  pub start : BankSeen
  pub opened : IsOpenFor command told file old start
  pub none : IsUnperformed file.plan start
  pub zero : IsStart file.plan file.arrays start.nodes
  pub read : (c : Content) → IsTold command told c
      → Given (wants_of file.arrays) (inputs_of c command input) (read_parts file.plan file.arrays start.nodes)
  pub held : List ℕ
  pub order_is : HeldBy command.way (λ held. (c : Content) → IsTold command told c
      → ListHolds (inputs_of c command order) held) held
  pub left : Option (List ℕ)
  pub rest : Rest Trap
  pub ran : HasRun chosen_answer chosen_next (Some held) left file.plan start now rest (Traced file.plan)
  pub room : KeepsRoom file.plan (bytes_in start.nodes)
  pub over : Over rest

-- what a command writes to `err` of the events that it performs: their lines, where a trace is wanted
abbrev pub trace_of : Command → Plan → List Event → List ℕ
trace_of command plan events = if command.traced then trace_text plan events else []

-- nothing is left that is ready, and the run has ended so
abbrev pub HasEnded : Option (Ending Trap) → Rest Trap → Type 0
HasEnded ended rest = (ready rest.left ≡ 0) × (rest.ended ≡ ended)

-- the whole run, with its trace
abbrev pub IsWholeRun : Command → Option Content → (trace : List ℕ) → Option (Ending Trap) → BankSeen → BankSeen
    → Type 0
IsWholeRun command told trace ended old now =
    IsRun command told (λ p es. trace ≡ trace_of command p es) (HasEnded ended) old now

-- the whole run, in which nothing trapped, and of which the text for `out` is printed: that of the arrays in the root,
-- and of the demo the line of that text
pub record IsPrinted (command : Command) (told : Option Content) (out trace : List ℕ) (old now : BankSeen) : Type 0
  where
    pub run : IsWholeRun command told trace None old now
    pub prints : out ≡ shown command.kind command.way (root_text run.file.plan run.file.arrays (bytes_at now.nodes 0))

-- the lines of these events but the last one's, and a front of that
pub record IsCutTrace (plan : Plan) (events : List Event) (got : List ℕ) : Type 0 where
  pub before : List Event
  pub last : Event
  pub is : events ≡ before ++ last ∷ []
  pub count : ℕ
  pub text : got ≡ trace_text plan before ++ take count (event_line plan last)

-- the run up to the event whose line was cut
pub record IsCutRun (command : Command) (told : Option Content) (got : List ℕ) (old now : BankSeen) : Type 0 where
  pub traced : command.traced ≡ true
  pub run : IsRun command told (λ p es. IsCutTrace p es got) (λ rest. Unit {0}) old now

-- the whole run, where its trace was put, and only the line behind it cut
pub record IsNamedRun (command : Command) (told : Option Content) (got trace : List ℕ) (ended : Option (Ending Trap))
    (old now : BankSeen) : Type 0 where
  pub run : IsWholeRun command told trace ended old now
  pub more : List ℕ
  pub got_is : got ≡ trace ++ more

-- the trap of a command is this one of its run
abbrev pub ending_of : Shown → Option (Ending Trap)
ending_of trap = Some (record { path = trap.path; cause = record { kind = trap.kind; place = trap.place } })

-- the run that trapped, or where its trace was cut a beginning of it
abbrev pub RunFor : Command → Option Content → Writing → Shown → List ℕ → BankSeen → BankSeen → Type 0
RunFor command told whole trap trace old now = IsWholeRun command told trace (ending_of trap) old now
RunFor command told cut_out trap trace old now = IsWholeRun command told trace (ending_of trap) old now
RunFor command told (cut_err got) trap trace old now =
    IsCutRun command told got old now ⊎ IsNamedRun command told got trace (ending_of trap) old now

abbrev pub PrintedFor : Command → Option Content → Writing → List ℕ → List ℕ → BankSeen → BankSeen → Type 0
PrintedFor command told whole out trace old now = IsPrinted command told out trace old now
PrintedFor command told cut_out out trace old now = IsPrinted command told out trace old now
PrintedFor command told (cut_err got) out trace old now = IsCutRun command told got old now

-- a command that doesn't open the bank leaves it as it was, and has no trace
abbrev pub AfterDone : Bool → Command → Option Content → Writing → List ℕ → List ℕ → BankSeen → BankSeen → Type 0
AfterDone false command told writing out trace old now = (now ≡ old) × (trace ≡ [])
AfterDone true command told writing out trace old now = PrintedFor command told writing out trace old now

abbrev pub AfterTrap : Bool → Command → Option Content → Writing → Shown → List ℕ → BankSeen → BankSeen → Type 0
AfterTrap false command told writing trap trace old now = (now ≡ old) × (trace ≡ [])
AfterTrap true command told writing trap trace old now = RunFor command told writing trap trace old now

-- where a command stopped in a phase
abbrev pub AfterStop : Bool → Command → Option Content → BankSeen → BankSeen → Type 0
AfterStop false command told old now = now ≡ old
AfterStop true command told old now = IsUnrun command told old now

-- the bank after an answer whose texts were put so
abbrev pub BankAfter : Command → Option Content → Answer → Writing → BankSeen → BankSeen → Type 0
BankAfter command told (done out trace) writing old now =
    AfterDone (opens command.kind) command told writing out trace old now
BankAfter command told (refused phase its) writing old now = AfterStop (is_open_at command.kind phase) command told
    old now
BankAfter command told (trapped trap trace) writing old now =
    AfterTrap (opens command.kind) command told writing trap trace old now
BankAfter command told usage writing old now = now ≡ old
BankAfter command told (file_fault phase name) writing old now =
    AfterStop (is_open_at command.kind phase) command told old now
BankAfter command told no_memory writing old now = now ≡ old
BankAfter command told (absent phase name) writing old now = AfterStop (is_open_at command.kind phase) command told
    old now
