-- What a run carries is what the report of its plan tells.
use Rattle.std.specs.Prelude.{◌≡◌, ℕ, List, None}
use Rattle.sq_leaf.specs.declared.trap.Trap.{Trap}
use Rattle.sq_ir.specs.Runs.{State}
use Rattle.sq_ir.specs.Scopes.{Scope}
use Rattle.sq_ir.specs.Events.{Bytes, Event}
use Rattle.sq_ir.specs.Plans.{IsGood}
use Rattle.sq_ir.specs.PlanLaws.{Ends}
use Rattle.sq_ir.specs.Traffic.{level_in}
use Rattle.sq_ir.specs.declared.plan.Plan.{Plan}
use Rattle.sq_sums.specs.Totals as plan
use Rattle.sq_tree.specs.Bank.{leaves_in}
use Rattle.sq_tree.specs.Totals as run

-- Whatever the order, a run of a good plan that goes on until nothing is ready and doesn't trap carries over each edge,
-- and performs of each kind of event, what the sums over the plan written out say.
abbrev pub RunsCarryTheTraffic : Type 0
RunsCarryTheTraffic = (p : Plan) (m : Bytes) → IsGood (leaves_in p) p → (picks : List ℕ) (events : List Event)
    (last : State Event Scope Bytes Trap) → Ends (leaves_in p) p m picks events last → last.ended ≡ None
    → ((edge : ℕ) → run.carried_by (level_in p.nodes) edge events ≡ plan.carried_by p edge)
    × (run.counts_of events ≡ plan.counts_of p)
