-- The sums over a plan's events.
use Rattle.std.proofs.Common.{◌≡◌, ℕ, true, List, [], sym, ap, ◌∙◌}
use Rattle.std.specs.Prelude.{Result, Ok, Err, IfOk}
use Rattle.sq_ir.specs.declared.term.Action.{Action}
use Rattle.sq_ir.specs.declared.plan.Plan.{Plan}
use Rattle.sq_ir.specs.Plans.{tree_of}
use Rattle.sq_ir.specs.Traffic.{level_in}
use Rattle.sq_nests.specs.Stacks.{capped}
use Rattle.sq_sums.specs.declared.toll.Kind.{Kind}
use Rattle.sq_sums.specs.Totals.{tree_sum}
use Rattle.sq_sums.specs.Tolls.{toll, event_toll, sum_of, IsTolled}
use Rattle.sq_sums.specs.Fans.{are_even}
use Rattle.sq_sums.specs.Flows.{flow_sum, flow_of, asks}
use Rattle.sq_sums.proofs.Flowing.{plan_flow}
use Rattle.sq_sums.proofs.Events.{plan_sum}

pub flow_is : {E : Type 0} (p : Plan) (v w : Action → ℕ) (fs : List ℕ) (r : Result ℕ E) → v ≡ w
    → (asks p.draft.term ≡ true → are_even p.nodes fs ≡ true)
    → IfOk r (λ n. n ≡ flow_sum (flow_of v p.draft.term fs) [])
    → IfOk r (λ n. IsTolled p
    → n ≡ capped (sum_of p.nodes w p.draft.term (record { turns = []; node = 0; held = 0 })))
flow_is p v w fs (Ok n) e a h = λ t. h ∙ ap (λ u. flow_sum (flow_of u p.draft.term fs) []) e ∙ plan_flow p w fs t a
flow_is p v w fs (Err u) e a h = h

pub kind_sum : (p : Plan) (kind : Kind) (n : ℕ) → (IsTolled p → n
    ≡ capped (sum_of p.nodes (toll p.draft.buffers kind) p.draft.term (record { turns = []; node = 0; held = 0 })))
    → IsTolled p
    → n ≡ capped (tree_sum (event_toll (level_in p.nodes) kind) (tree_of p))
kind_sum p kind n e h = e h ∙ ap capped (sym (plan_sum p kind h))
