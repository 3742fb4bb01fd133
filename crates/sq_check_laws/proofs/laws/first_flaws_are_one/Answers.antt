use Rattle.sq_check_laws.proofs.First.{first_flaws_are_one}
use Rattle.sq_check_laws.proofs.laws.first_flaws_are_one.Goals as goal

pub returns : goal.returns
returns g c = first_flaws_are_one _
