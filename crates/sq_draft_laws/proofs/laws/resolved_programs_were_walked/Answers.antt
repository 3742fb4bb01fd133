use Rattle.sq_draft_laws.proofs.WalkedHolds.{walked_is_there}
use Rattle.sq_draft_laws.proofs.laws.resolved_programs_were_walked.Goals as goal

pub returns : goal.returns
returns c = walked_is_there
