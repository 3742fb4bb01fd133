use Rattle.sq_placed.proofs.Plain.{plain_entry}
use Rattle.sq_placed.proofs.laws.placed_is_work.Goals as goal

pub returns : goal.returns
returns c = plain_entry
