use Rattle.sq_plan_laws.proofs.Entry.{plans_follow}
use Rattle.sq_plan_laws.proofs.plans_follow.Goals as goal

pub returns : goal.returns
returns c = plans_follow
