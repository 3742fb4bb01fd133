use Rattle.sq_work.proofs.Serial.{depends_on_touched}
use Rattle.sq_work.proofs.laws.only_what_is_touched_matters.Goals as goal

pub returns : goal.returns
returns c = depends_on_touched
