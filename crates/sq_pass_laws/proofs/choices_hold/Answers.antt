use Rattle.sq_pass_laws.proofs.HoistPrograms.{choices_hold}
use Rattle.sq_pass_laws.proofs.choices_hold.Goals as goal

pub returns : goal.returns
returns g = choices_hold
