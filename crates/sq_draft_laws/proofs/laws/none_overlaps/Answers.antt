use Rattle.sq_draft_laws.proofs.Hoisting.{none_pipes}
use Rattle.sq_draft_laws.proofs.laws.none_overlaps.Goals as goal

pub returns : goal.returns
returns c = none_pipes
