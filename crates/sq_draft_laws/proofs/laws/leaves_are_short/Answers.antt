use Rattle.sq_draft_laws.proofs.ShortHold.{leaves_are_short}
use Rattle.sq_draft_laws.proofs.laws.leaves_are_short.Goals as goal

pub returns : goal.returns
returns c = leaves_are_short c.bodies_are_tables.ensures
