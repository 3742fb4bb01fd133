-- What runs carry over the edges between levels, and how many events they perform, as sums over the plan's events.
use Rattle.std.specs.Prelude.{◌≡◌, ℕ, ◌+◌, ◌<◌, ◌^◌, ◌-◌, min, List, [], ◌∷◌, get_or, replicate}
use Rattle.std.specs.Prelude.{None}
use Rattle.sq_leaf.specs.declared.trap.Trap.{Trap}
use Rattle.sq_ir.specs.Tree.{waiting_events}
use Rattle.sq_ir.specs.Runs.{State}
use Rattle.sq_ir.specs.Scopes.{Scope}
use Rattle.sq_ir.specs.Events.{Bytes, Event}
use Rattle.sq_ir.specs.Plans.{tree_of, IsGood}
use Rattle.sq_ir.specs.PlanLaws.{Ends}
use Rattle.sq_ir.specs.Traffic.{no_counts, counted_all, nothing_carried, carried_all, down_by, up_by, copies_by, fills_by, accumulations_by, leaves_by}
use Rattle.sq_ir.specs.declared.plan.Plan.{Plan}
use Rattle.sq_ir.specs.declared.traffic.Carried.{Carried}
use Rattle.sq_ir.specs.declared.traffic.EventCounts.{EventCounts}
use Rattle.sq_tree.specs.Bank.{leaves_in}

abbrev pub total : (Event → ℕ) → List Event → ℕ
total f [] = 0
total f (e ∷ es) = f e + total f es

-- it stops at the greatest number of 64 bits
abbrev pub stopped : ℕ → ℕ
stopped n = min n (2 ^ 64 - 1)

abbrev pub carried_by : (level : ℕ → ℕ) → (edge : ℕ) → List Event → Carried
carried_by level edge es =
    record { down = stopped (total (down_by level edge) es); up = stopped (total (up_by level edge) es) }

abbrev pub counts_of : List Event → EventCounts
counts_of es =
    record {
      copies = stopped (total copies_by es);
      fills = stopped (total fills_by es);
      accumulations = stopped (total accumulations_by es);
      leaves = stopped (total leaves_by es);
    }

-- ---- whole runs

-- What the events of any run carry over each of so many edges, and how many of each kind there are: the sums over them.
abbrev pub AreSums : Type 0
AreSums =
    (level : ℕ → ℕ) (es : List Event) (edges : ℕ)
    → (counted_all es no_counts ≡ counts_of es)
    × ((k : ℕ) → k < edges
    → get_or (carried_all level es (replicate edges nothing_carried)) k nothing_carried ≡ carried_by level k es)

-- The events of a run that goes on until nothing is ready, and in which nothing traps, have the sums of the events of
-- the plan written out.
abbrev pub HaveThePlansSums : Type 0
HaveThePlansSums =
    (p : Plan) (m : Bytes) → IsGood (leaves_in p) p
    → (picks : List ℕ) (events : List Event) (last : State Event Scope Bytes Trap)
    → Ends (leaves_in p) p m picks events last → last.ended ≡ None
    → (f : Event → ℕ) → total f events ≡ total f (waiting_events (tree_of p))
