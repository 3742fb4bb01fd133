use Rattle.sq_plan_good.proofs.ListedForms.{calls_are_listed}
use Rattle.sq_plan_good.proofs.calls_are_listed.Goals as goal

pub returns : goal.returns
returns c = calls_are_listed
