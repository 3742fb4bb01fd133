use Rattle.sq_draft_laws.proofs.Paths.{paths_are_short as lemma}
use Rattle.sq_draft_laws.proofs.paths_are_short.Goals as goal

pub returns : goal.returns
returns c = lemma
