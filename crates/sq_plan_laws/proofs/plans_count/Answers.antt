use Rattle.sq_plan_laws.proofs.LeafCalls.{plans_count}
use Rattle.sq_plan_laws.proofs.plans_count.Goals as goal

pub returns : goal.returns
returns c = plans_count
