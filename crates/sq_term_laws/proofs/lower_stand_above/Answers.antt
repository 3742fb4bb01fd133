use Rattle.sq_term_laws.proofs.Lower.{lower_stand_above}
use Rattle.sq_term_laws.proofs.lower_stand_above.Goals as goal

pub returns : goal.returns
returns g = lower_stand_above
