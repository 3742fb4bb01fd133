use Rattle.sq_draft_laws.proofs.Tabled.{drafts_are_tabled}
use Rattle.sq_draft_laws.proofs.drafts_are_tabled.Goals as goal

pub returns : goal.returns
returns c = drafts_are_tabled
