use Rattle.sq_draft_laws.proofs.Roomy.{drafts_are_roomy}
use Rattle.sq_draft_laws.proofs.drafts_are_roomy.Goals as goal

pub returns : goal.returns
returns c = drafts_are_roomy
