use Rattle.sq_draft_laws.proofs.Levels.{drafts_begin_at_root}
use Rattle.sq_draft_laws.proofs.drafts_begin_at_root.Goals as goal

pub returns : goal.returns
returns c = drafts_begin_at_root
