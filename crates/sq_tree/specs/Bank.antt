-- What a bank holds and has performed, and what its calls do to that.
use Rattle.std.specs.Prelude.{◌≡◌, ℕ, ◌+◌, true, List, [], ◌∷◌, ◌++◌, Option, Some, length, map, replicate, get_or}
use Rattle.std.specs.Prelude.{take, drop}
use Rattle.sq_leaf.specs.declared.trap.Trap.{Trap}
use Rattle.sq_ir.specs.Runs as runs
use Rattle.sq_ir.specs.Footprints.{is_kept}
use Rattle.sq_ir.specs.Events.{Bytes, Spot, Event, Leaves, footprint, after_event, trap_event}
use Rattle.sq_ir.specs.Plans.{MayBePerformed}
use Rattle.sq_ir.specs.DraftLeaves.{leaves_of}
use Rattle.sq_ir.specs.Traffic.{no_counts, counted, nothing_carried, carried, level_in, deepest, more_by}
use Rattle.sq_ir.specs.declared.plan.PlanNode.{PlanNode}
use Rattle.sq_ir.specs.declared.traffic.EventCounts.{EventCounts}
use Rattle.sq_ir.specs.declared.traffic.Carried.{Carried}
use Rattle.sq_ir.specs.declared.plan.Plan.{Plan}

-- how often it was opened, its plan once it is open, the bytes of each node from the root on, the events performed,
-- where they are told, how many there were of each kind, and what each edge carried, from the root's on
pub record BankSeen : Type 0 where
  pub openings : ℕ
  pub plan : Option Plan
  pub nodes : List (List ℕ)
  pub events : Option (List Event)
  pub counts : EventCounts
  pub edges : List Carried

-- ---- nodes

abbrev pub bytes_at : List (List ℕ) → (node : ℕ) → List ℕ
bytes_at nodes n = get_or nodes n []

-- lists of bytes as the bytes of all nodes; behind the end of a node there are zeros
abbrev pub bytes_in : List (List ℕ) → Bytes
bytes_in nodes a = get_or (bytes_at nodes a.node) a.at 0

abbrev pub size_in : List (List ℕ) → (node : ℕ) → ℕ
size_in nodes n = length (bytes_at nodes n)

-- ---- plans

abbrev pub leaves_in : Plan → Leaves Trap
leaves_in p = leaves_of p.draft

abbrev pub capacities : Plan → List ℕ
capacities p = map (λ n. n.capacity) p.nodes

-- a memory of zeros for each node
abbrev pub zeros : List PlanNode → List (List ℕ)
zeros nodes = map (λ n. replicate n.capacity 0) nodes

-- the bank is open with this plan, and each node has its capacity
pub record IsPrepared (p : Plan) (seen : BankSeen) : Type 0 where
  pub plan : seen.plan ≡ Some p
  pub sizes : map length seen.nodes ≡ capacities p

-- ---- calls

-- opened once more, with this plan: each node has its capacity in zero bytes, and nothing was performed
pub record IsOpened (p : Plan) (old now : BankSeen) : Type 0 where
  pub openings : now.openings ≡ more_by old.openings 1
  pub plan : now.plan ≡ Some p
  pub nodes : now.nodes ≡ zeros p.nodes
  pub events : (told : List Event) → now.events ≡ Some told → told ≡ []
  pub counts : now.counts ≡ no_counts
  pub edges : now.edges ≡ replicate (deepest p.nodes) nothing_carried

-- the bank is open, and what its plan asks of this event holds in its nodes
pub record IsAsked (e : Event) (seen : BankSeen) : Type 0 where
  pub plan : Plan
  pub is : seen.plan ≡ Some plan
  pub may : MayBePerformed (leaves_in plan) (size_in seen.nodes) e

-- An event of the plan p was performed. The bytes are what the event leaves, but for those that a leaf that trapped may
-- spoil; sizes stay. The event is the last of the list where the list is told, and it was told before.
pub record HasDone (p : Plan) (e : Event) (old now : BankSeen) : Type 0 where
  pub openings : now.openings ≡ old.openings
  pub plan : now.plan ≡ old.plan
  pub sizes : map length now.nodes ≡ map length old.nodes
  pub bytes : (a : Spot)
      → is_kept (footprint (leaves_in p)) e (trap_event (leaves_in p) e (bytes_in old.nodes)) a ≡ true
      → bytes_in now.nodes a ≡ after_event (leaves_in p) e (bytes_in old.nodes) a
  pub events : (told : List Event) → now.events ≡ Some told → (before : List Event) × (old.events ≡ Some before)
      × (told ≡ before ++ e ∷ [])
  pub counts : now.counts ≡ counted e old.counts
  pub edges : now.edges ≡ carried (level_in p.nodes) e old.edges

pub record Performs (e : Event) (old now : BankSeen) : Type 0 where
  pub done : (p : Plan) → old.plan ≡ Some p → HasDone p e old now

-- the trap of an event, as its plan says
pub record TrapsAs (e : Event) (old : BankSeen) (trap : Option (runs.Trap Trap)) : Type 0 where
  pub said : (p : Plan) → old.plan ≡ Some p → trap ≡ trap_event (leaves_in p) e (bytes_in old.nodes)

-- these bytes from that place on, and all others as they were
abbrev pub put_at : ℕ → List ℕ → List ℕ → List ℕ
put_at at piece bytes = take at bytes ++ (piece ++ drop (at + length piece) bytes)

-- the first of these nodes is another one
abbrev pub put_first : (List ℕ → List ℕ) → List (List ℕ) → List (List ℕ)
put_first f [] = []
put_first f (bytes ∷ rest) = f bytes ∷ rest

-- some bytes of the root are others, and nothing was performed
pub record PutsRoot (at : ℕ) (from : List ℕ) (old now : BankSeen) : Type 0 where
  pub openings : now.openings ≡ old.openings
  pub plan : now.plan ≡ old.plan
  pub nodes : now.nodes ≡ put_first (put_at at from) old.nodes
  pub events : now.events ≡ old.events
  pub counts : now.counts ≡ old.counts
  pub edges : now.edges ≡ old.edges
