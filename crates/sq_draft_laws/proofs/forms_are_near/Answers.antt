use Rattle.sq_draft_laws.proofs.Near.{forms_are_near as lemma}
use Rattle.sq_draft_laws.proofs.forms_are_near.Goals as goal

pub returns : goal.returns
returns c = lemma
