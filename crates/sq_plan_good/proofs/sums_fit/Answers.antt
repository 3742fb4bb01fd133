use Rattle.sq_plan_good.proofs.Fitting.{sums_fit}
use Rattle.sq_plan_good.proofs.sums_fit.Goals as goal

pub returns : goal.returns
returns c = sums_fit
