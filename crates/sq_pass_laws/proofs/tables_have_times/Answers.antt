use Rattle.sq_pass_laws.proofs.HoistPrograms.{tables_have_times}
use Rattle.sq_pass_laws.proofs.tables_have_times.Goals as goal

pub returns : goal.returns
returns g = tables_have_times
