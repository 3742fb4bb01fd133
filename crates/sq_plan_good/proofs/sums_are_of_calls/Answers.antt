use Rattle.sq_plan_good.proofs.Drafts.{sums_are_of_calls}
use Rattle.sq_plan_good.proofs.sums_are_of_calls.Goals as goal

pub returns : goal.returns
returns c = sums_are_of_calls
