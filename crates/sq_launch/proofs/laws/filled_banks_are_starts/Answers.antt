use Rattle.sq_launch.proofs.Starts.{filled_are_starts}
use Rattle.sq_launch.proofs.laws.filled_banks_are_starts.Goals as goal

pub returns : goal.returns
returns c = filled_are_starts c.opened_banks_are_prepared.ensures.opened c.banks_stay_open.ensures.prepared
