use Rattle.std.proofs.Common.{List, sym, ap, ◌∙◌}
use Rattle.std.specs.Prelude.{not, ◌||◌}
use Rattle.sq_ir.specs.declared.plan.PlanNode.{PlanNode}
use Rattle.sq_sums.specs.Tolls.{toll}
use Rattle.sq_sums.specs.Fans.{are_even}
use Rattle.sq_sums.specs.Flows.{asks}
use Rattle.sq_sums.proofs.Evening.{told_if}
use Rattle.sq_sums.proofs.Carrying.{flow_is}
use Rattle.sq_sums.proofs.edges.total.Goals as goal

pub returns-then-is_known : goal.returns-then-is_known
returns-then-is_known c =
    let p = c.args.plan.now in
    let fs = c.as_slice-fans.result.now in
    flow_is p _ (toll p.draft.buffers c.args.kind) fs c.flow_total.result
    (ap (λ b. toll b c.args.kind) c.as_slice.ensures)
    (told_if (asks p.draft.term) (are_even p.nodes fs)
    (ap (λ (ns : List PlanNode). not (asks p.draft.term) || are_even ns fs) (sym c.as_slice-nodes.ensures)
    ∙ sym c.is_known.ensures ∙ c.if-is_known.true)) c.flow_total.ensures
