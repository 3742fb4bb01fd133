use Rattle.sq_plan_laws.proofs.Whole.{trees_are_like}
use Rattle.sq_plan_laws.proofs.trees_are_like.Goals as goal

pub returns : goal.returns
returns c = trees_are_like
