use Rattle.sq_sums.proofs.Tolling.{tolled}
use Rattle.sq_sums.proofs.laws.well_formed_plans_are_summed.Goals as goal

pub returns : goal.returns
returns g c = tolled _
