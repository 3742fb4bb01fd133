use Rattle.sq_draft_laws.proofs.Ordered.{buffers_are_numbered}
use Rattle.sq_draft_laws.proofs.buffers_are_numbered.Goals as goal

pub returns : goal.returns
returns c = buffers_are_numbered
