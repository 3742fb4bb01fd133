use Rattle.sq_work.proofs.Computed.{traps_have_paths}
use Rattle.sq_work.proofs.laws.traps_have_their_paths.Goals as goal

pub returns : goal.returns
returns c = traps_have_paths
