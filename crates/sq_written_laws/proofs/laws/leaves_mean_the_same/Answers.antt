use Rattle.sq_written_laws.proofs.Places.{leaves_mean}
use Rattle.sq_written_laws.proofs.laws.leaves_mean_the_same.Goals as goal

pub returns : goal.returns
returns c v u same numbers shapes a = leaves_mean v u same numbers shapes a
