use Rattle.sq_ir.specs.DraftLeaves.{leaves_of}
use Rattle.sq_driver.proofs.Planning.{totals_are}
use Rattle.sq_driver.proofs.commands.plan.totals_for.Goals as goal

pub returns : goal.returns
returns c = totals_are c.totals_of.result c.machine.result.now c.args.resolved.now.machine.now c.args.plan.now
    (c.well_formed_plans_have_totals.ensures (leaves_of c.args.plan.now.draft) c.args.plan.now
    c.requires.good.good.well_formed)
    c.machine.ensures c.totals_of.ensures
