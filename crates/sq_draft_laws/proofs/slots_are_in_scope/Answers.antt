use Rattle.sq_draft_laws.proofs.Formed.{slots_are_in_scope as lemma}
use Rattle.sq_draft_laws.proofs.slots_are_in_scope.Goals as goal

pub returns : goal.returns
returns c = lemma
