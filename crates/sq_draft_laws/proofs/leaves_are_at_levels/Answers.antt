use Rattle.sq_draft_laws.proofs.AtLevels.{leaves_are_at_levels as lemma}
use Rattle.sq_draft_laws.proofs.leaves_are_at_levels.Goals as goal

pub returns : goal.returns
returns c = lemma
