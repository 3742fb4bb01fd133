use Rattle.sq_plan_good.proofs.Small.{needs_are_small}
use Rattle.sq_plan_good.proofs.needs_are_small.Goals as goal

pub returns : goal.returns
returns c = needs_are_small
