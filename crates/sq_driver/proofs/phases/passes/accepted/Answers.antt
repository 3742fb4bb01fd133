use Rattle.std.proofs.Common.{ap, ◌∙◌}
use Rattle.sq_ir.specs.DraftLeaves.{leaves_of}
use Rattle.sq_machfile.specs.Machines.{Hierarchy}
use Rattle.sq_tune_text.specs.Traffic.{traffic_of}
use Rattle.sq_tune.specs.declared.row.RowEnd.TheVariants.{Traffic}
use Rattle.sq_driver.proofs.phases.passes.accepted.Goals as goal

pub returns : goal.returns
returns c = ap Traffic
    (c.in_ok-traffic.ensures (c.well_formed_plans_have_totals.ensures (leaves_of c.args.plan.now.draft)
    c.args.plan.now c.requires.good.good.well_formed).tolled
    ∙ ap (λ (h : Hierarchy). traffic_of h c.args.plan.now) c.machine.ensures)
