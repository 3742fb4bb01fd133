use Rattle.sq_check_laws.proofs.Good.{flawless_are_good}
use Rattle.sq_check_laws.proofs.laws.flawless_plans_are_good.Goals as goal

pub returns : goal.returns
returns g c = flawless_are_good _
