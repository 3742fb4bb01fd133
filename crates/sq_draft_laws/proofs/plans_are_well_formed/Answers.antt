use Rattle.sq_draft_laws.proofs.Formed.{plans_are_well_formed as lemma}
use Rattle.sq_draft_laws.proofs.plans_are_well_formed.Goals as goal

pub returns : goal.returns
returns c = lemma
