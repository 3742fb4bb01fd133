use Rattle.sq_draft_laws.proofs.Placeable.{drafts_are_stacked_by_forms}
use Rattle.sq_draft_laws.proofs.drafts_are_stacked_by_forms.Goals as goal

pub returns : goal.returns
returns c = drafts_are_stacked_by_forms
