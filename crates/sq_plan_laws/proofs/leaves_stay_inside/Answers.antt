use Rattle.sq_plan_laws.proofs.Law.{leaves_stay_inside}
use Rattle.sq_plan_laws.proofs.leaves_stay_inside.Goals as goal

pub returns : goal.returns
returns c = leaves_stay_inside
