use Rattle.sq_plan_good.proofs.Agreeing.{sums_are_needs}
use Rattle.sq_plan_good.proofs.sums_are_needs.Goals as goal

pub returns : goal.returns
returns c = sums_are_needs
