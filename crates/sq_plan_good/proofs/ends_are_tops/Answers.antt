use Rattle.sq_plan_good.proofs.Tops.{ends_are_tops}
use Rattle.sq_plan_good.proofs.ends_are_tops.Goals as goal

pub returns : goal.returns
returns c = ends_are_tops
