use Rattle.std.proofs.Common.{◌+◌, ◌-◌, ◌^◌, ◌∙◌, ap, min}
use Rattle.sq_tune_text.proofs.Sums.{no_edge, edge_more}
use Rattle.sq_tune_text.proofs.traffic.plan_traffic.Goals as goal

pub loop-edge-init : goal.loop-edge-init
loop-edge-init c = λ tolled. no_edge

pub loop-edge-preserved : goal.loop-edge-preserved
loop-edge-preserved c = λ tolled.
    c.saturating_add-sum.ensures ∙ ap (λ n. min (n + c.in_ok-its.its.up) (2 ^ 64 - 1)) c.saturating_add.ensures
    ∙ edge_more c.args.plan.now c.loop-edge.edge c.loop-edge.sum c.in_ok-its.its (c.loop-edge.invariant tolled) (c.in_ok-its.ensures tolled)
