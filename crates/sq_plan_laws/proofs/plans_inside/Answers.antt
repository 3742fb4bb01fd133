use Rattle.sq_plan_laws.proofs.Room.{plans_inside}
use Rattle.sq_plan_laws.proofs.plans_inside.Goals as goal

pub returns : goal.returns
returns c = plans_inside
