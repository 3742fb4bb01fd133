use Rattle.sq_plan_check.proofs.Entering.{too_many, entered}
use Rattle.sq_plan_check.proofs.events.entries_of.Goals as goal

pub returns-in-None : goal.returns-in-None
returns-in-None g c = too_many c.args.plan.now c.requires c.in-None.ensures

pub returns : goal.returns
returns g c = entered c.args.plan.now c.requires c.in-Some.field-0 c.in_ok-entries-in-Some.entries c.in-Some.ensures c.in_ok-entries-in-Some.ensures
