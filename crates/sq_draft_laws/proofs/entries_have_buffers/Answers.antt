use Rattle.sq_draft_laws.proofs.Entry.{entries_have_buffers}
use Rattle.sq_draft_laws.proofs.entries_have_buffers.Goals as goal

pub returns : goal.returns
returns c = entries_have_buffers
