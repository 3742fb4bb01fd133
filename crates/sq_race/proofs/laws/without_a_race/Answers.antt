use Rattle.sq_race.proofs.FreeHold.{no_race_is_free}
use Rattle.sq_race.proofs.laws.without_a_race.Goals as goal

pub returns : goal.returns
returns c = no_race_is_free
