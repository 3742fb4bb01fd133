use Rattle.sq_work.proofs.Serial.{changes_written}
use Rattle.sq_work.proofs.laws.what_changes_is_written.Goals as goal

pub returns : goal.returns
returns c = changes_written
