use Rattle.sq_plan_laws.proofs.Entry.{plans_are_safe}
use Rattle.sq_plan_laws.proofs.plans_are_safe.Goals as goal

pub returns : goal.returns
returns c = plans_are_safe
