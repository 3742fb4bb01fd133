use Rattle.sq_touches.proofs.Dependence.{acts_tell_dependence}
use Rattle.sq_touches.proofs.laws.acts_tell_dependence.Goals as goal

pub returns : goal.returns
returns g c = acts_tell_dependence _
