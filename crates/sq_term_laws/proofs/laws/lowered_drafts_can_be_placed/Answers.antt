use Rattle.sq_term_laws.proofs.Lowered.{lowered_is_placeable}
use Rattle.sq_term_laws.proofs.laws.lowered_drafts_can_be_placed.Goals as goal

pub returns : goal.returns
returns c = lowered_is_placeable
