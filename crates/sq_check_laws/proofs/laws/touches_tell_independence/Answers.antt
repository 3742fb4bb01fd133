use Rattle.sq_check_laws.proofs.Independent.{independent_by_touches}
use Rattle.sq_check_laws.proofs.laws.touches_tell_independence.Goals as goal

pub returns : goal.returns
returns g c = independent_by_touches _
