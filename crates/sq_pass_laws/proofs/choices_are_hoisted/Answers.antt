use Rattle.sq_pass_laws.proofs.HoistPrograms.{choices_are_hoisted}
use Rattle.sq_pass_laws.proofs.choices_are_hoisted.Goals as goal

pub returns : goal.returns
returns g = choices_are_hoisted
