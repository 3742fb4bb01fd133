use Rattle.sq_draft_laws.proofs.EntryOwned.{drafts_own}
use Rattle.sq_draft_laws.proofs.drafts_own_their_buffers.Goals as goal

pub returns : goal.returns
returns c = drafts_own
