use Rattle.sq_draft_laws.proofs.Entry.{entries_are_whole}
use Rattle.sq_draft_laws.proofs.entries_are_whole.Goals as goal

pub returns : goal.returns
returns c = entries_are_whole
