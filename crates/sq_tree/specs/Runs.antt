-- Runs of a plan on a bank, under the answers of an order.
use Rattle.std.specs.Prelude.{◌≡◌, ℕ, ◌%◌, ◌^◌, ◌<◌, Bool, true, false, List, [], ◌∷◌, ◌++◌, Option, Some, None, Result}
use Rattle.std.specs.Prelude.{Ok, Err, map, length, replicate, take}
use Rattle.std.specs.List.{All}
use Rattle.sq_leaf.specs.declared.trap.Trap.{Trap}
use Rattle.sq_port.specs.Ports.{Gains, Rose}
use Rattle.sq_port.specs.Orders.{PicksTold}
use Rattle.sq_ir.specs.Tree.{ready}
use Rattle.sq_ir.specs.Runs.{Meaning, State, start}
use Rattle.sq_ir.specs.Footprints.{Footprint, CanPerform}
use Rattle.sq_ir.specs.Scopes.{Scope, open_scopes}
use Rattle.sq_ir.specs.Events.{Bytes, Event, meaning, footprint}
use Rattle.sq_ir.specs.Unordered.{AllEvents}
use Rattle.sq_ir.specs.Plans.{tree_of, setting_of, HaveRoom, MayBePerformed}
use Rattle.sq_ir.specs.PlanLaws.{Comes, Ends}
use Rattle.sq_ir.specs.Traffic.{counted_all, carried_all, level_in}
use Rattle.sq_ir.specs.declared.plan.Plan.{Plan}
use Rattle.sq_sched.specs.Rests.{Rest}
use Rattle.sq_sched.specs.declared.control.Ended.{Ended}
use Rattle.sq_tree.specs.declared.runs.RunEnd.{RunEnd}
use Rattle.sq_tree.specs.declared.runs.RunEnd.TheVariants.{Trapped, SinkFault}
use Rattle.sq_tree.specs.Bank.{BankSeen, bytes_in, size_in, leaves_in, IsPrepared, HasDone}
use Rattle.sq_tree.specs.Trace.{event_line, trace_text}

-- ---- orders

-- From s a run may perform these events and lead to t, under the answers of an order that holds `held` before them and
-- `left` after them. Each pick is the order's answer to how many events are ready.
abbrev pub RunsUnder : {E S A C : Type 0} → (answer : List ℕ → ℕ → ℕ) → (next : List ℕ → ℕ → List ℕ)
    → Meaning E (A → ℕ) C → Footprint E A
    → (held : List ℕ) → State E S (A → ℕ) C → (picks : List ℕ) → (events : List E) → State E S (A → ℕ) C
    → (left : List ℕ) → Type 0
RunsUnder answer next w f held s [] [] t left = (t ≡ s) × (left ≡ held)
RunsUnder answer next w f held s [] (e ∷ es) t left = ⊥
RunsUnder answer next w f held s (p ∷ ps) [] t left = ⊥
RunsUnder {E} {S} {A} {C} answer next w f held s (p ∷ ps) (e ∷ es) t left =
    (p ≡ answer held (ready s.rest)) × (mid : State E S (A → ℕ) C) × CanPerform w f s (p % ready s.rest) e mid
    × RunsUnder answer next w f (next held (ready s.rest)) mid ps es t left

-- ---- states

-- a state of a run, by the bank and the control
abbrev pub state_of : BankSeen → Rest Trap → State Event Scope Bytes Trap
state_of seen r = record { bytes = bytes_in seen.nodes; rest = r.left; ended = r.ended }

abbrev pub start_of : Plan → BankSeen → State Event Scope Bytes Trap
start_of p seen = start (tree_of p) (bytes_in seen.nodes)

-- these events were performed on a bank, one after another
pub record HasPerformed (p : Plan) (done : List Event) (old now : BankSeen) : Type 0 where
  pub openings : now.openings ≡ old.openings
  pub plan : now.plan ≡ old.plan
  pub sizes : map length now.nodes ≡ map length old.nodes
  pub events : (told : List Event) → now.events ≡ Some told → (before : List Event) × (old.events ≡ Some before)
      × (told ≡ before ++ done)
  pub counts : now.counts ≡ counted_all done old.counts
  pub edges : now.edges ≡ carried_all (level_in p.nodes) done old.edges

-- ---- traces

-- the lines of these events but the last, and a front of the last one's
pub record IsCut (p : Plan) (events : List Event) (start now : Option (List ℕ)) : Type 0 where
  pub before : List Event
  pub last : Event
  pub is : events ≡ before ++ last ∷ []
  pub count : ℕ
  pub gains : Gains start now (trace_text p before ++ take count (event_line p last))

abbrev pub is_stopped : Result Unit RunEnd → Bool
is_stopped (Ok x) = false
is_stopped (Err (Trapped trap path)) = false
is_stopped (Err SinkFault) = true

-- what was put to the trace: the lines of these events; where a put failed, the last line not whole
pub record HasTrace (p : Plan) (start now : Option (List ℕ)) (faults now_faults : ℕ) (stopped : Bool)
    (events : List Event) : Type 0 where
  pub whole : stopped ≡ false → Gains start now (trace_text p events) × (now_faults ≡ faults)
  pub cut : stopped ≡ true → IsCut p events start now × Rose faults now_faults

-- ---- runs

-- From `old` on, some events of the plan were performed under some picks, and led to this bank and this rest. Where it
-- is told what the order holds, the picks are its answers. `traced` tells of just these events.
pub record HasRun (answer : List ℕ → ℕ → ℕ) (next : List ℕ → ℕ → List ℕ) (held left : Option (List ℕ)) (p : Plan)
    (old now : BankSeen) (r : Rest Trap) (Traced : List Event → Type 0) : Type 0 where
  pub picks : List ℕ
  pub events : List Event
  pub comes : Comes (leaves_in p) p (bytes_in old.nodes) picks events (state_of now r)
  pub under : (h : List ℕ) → held ≡ Some h → (l : List ℕ) × (left ≡ Some l)
      × RunsUnder answer next (meaning (leaves_in p)) (footprint (leaves_in p)) h (start_of p old) picks events
      (state_of now r) l
  pub performed : HasPerformed p events old now
  pub traced : Traced events

-- a last state of a run under picks 0
pub record IsFirst (p : Plan) (m : Bytes) (last : State Event Scope Bytes Trap) : Type 0 where
  pub zeros : ℕ
  pub events : List Event
  pub ends : Ends (leaves_in p) p m (replicate zeros 0) events last

-- an answer tells how this state has ended: Ok with its bytes and without a trap, Trapped with its trap
abbrev pub Tells : (now : Bytes) → State Event Scope Bytes Trap → Result Unit RunEnd → Type 0
Tells now s (Ok x) = (s.ended ≡ None) × (now ≡ s.bytes)
Tells now s (Err (Trapped trap path)) = s.ended ≡ Some (record { path = path; cause = trap })
Tells now s (Err SinkFault) = Unit {0}

-- But where the trace failed, the answer tells how the run under picks 0 ends.
pub record TellsFirst (p : Plan) (m now : Bytes) (result : Result Unit RunEnd) : Type 0 where
  pub tells : (s : State Event Scope Bytes Trap) → IsFirst p m s → Tells now s result

-- In each state to which events of the plan lead from these bytes, all events, performed or still to be performed, lie
-- inside their nodes and are as their calls ask, and the live buffers of one node lie below its capacity and share no
-- byte.
pub record KeepsRoom (p : Plan) (m : Bytes) : Type 0 where
  pub inside : (picks : List ℕ) (events : List Event) (now : State Event Scope Bytes Trap)
      → Comes (leaves_in p) p m picks events now
      → All (MayBePerformed (leaves_in p) (setting_of p).capacity) events
      × AllEvents (MayBePerformed (leaves_in p) (setting_of p).capacity) now.rest
  pub room : (picks : List ℕ) (events : List Event) (now : State Event Scope Bytes Trap)
      → Comes (leaves_in p) p m picks events now → HaveRoom (setting_of p) (open_scopes now.rest)

-- ---- one step

-- no node has 2^62 bytes or more
abbrev pub AreSmall : BankSeen → Type 0
AreSmall seen = (node : ℕ) → size_in seen.nodes node < 2 ^ 62

-- each event that is still to be performed may be performed on this bank, which is open with the plan
pub record MayPerform (r : Rest Trap) (seen : BankSeen) : Type 0 where
  pub prepared : IsPrepared r.plan seen
  pub small : AreSmall seen
  pub events : AllEvents (MayBePerformed (leaves_in r.plan) (setting_of r.plan).capacity) r.left

-- one event: the order's answer modulo the number of ready events is its number
pub record IsStep (answer : List ℕ → ℕ → ℕ) (next : List ℕ → ℕ → List ℕ) (held left : Option (List ℕ))
    (old now : BankSeen) (r q : Rest Trap) (e : Event) : Type 0 where
  pub pick : ℕ
  pub told : PicksTold answer next held left (ready r.left) pick
  pub performs : CanPerform (meaning (leaves_in r.plan)) (footprint (leaves_in r.plan)) (state_of old r)
      (pick % ready r.left) e (state_of now q)
  pub done : HasDone r.plan e old now
  pub plan : q.plan ≡ r.plan

-- the answer of a run that has ended with this trap
abbrev pub answer_of : Option (Ended Trap) → Result Unit RunEnd
answer_of None = Ok tt
answer_of (Some e) = Err (Trapped e.trap e.path)
