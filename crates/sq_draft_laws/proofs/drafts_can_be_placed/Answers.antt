use Rattle.sq_draft_laws.proofs.Placeable.{drafts_are_placeable}
use Rattle.sq_draft_laws.proofs.drafts_can_be_placed.Goals as goal

pub returns : goal.returns
returns c = drafts_are_placeable
