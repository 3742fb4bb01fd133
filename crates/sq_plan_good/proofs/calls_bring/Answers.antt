use Rattle.sq_plan_good.proofs.Bringing.{calls_bring}
use Rattle.sq_plan_good.proofs.calls_bring.Goals as goal

pub returns : goal.returns
returns c = calls_bring
