use Rattle.sq_plan_good.proofs.Agreeing.{needs_are_sums}
use Rattle.sq_plan_good.proofs.needs_are_sums.Goals as goal

pub returns : goal.returns
returns c = needs_are_sums
