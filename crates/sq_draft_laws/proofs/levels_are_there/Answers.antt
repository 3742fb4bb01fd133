use Rattle.sq_draft_laws.proofs.Levels.{levels_are_there}
use Rattle.sq_draft_laws.proofs.levels_are_there.Goals as goal

pub returns : goal.returns
returns c = levels_are_there
