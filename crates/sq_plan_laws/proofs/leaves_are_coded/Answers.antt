use Rattle.sq_plan_laws.proofs.Law.{leaves_are_coded}
use Rattle.sq_plan_laws.proofs.leaves_are_coded.Goals as goal

pub returns : goal.returns
returns c = leaves_are_coded
