use Rattle.sq_draft_laws.proofs.Leveled.{homes_are_leveled}
use Rattle.sq_draft_laws.proofs.laws.buffers_have_their_levels.Goals as goal

pub returns : goal.returns
returns c = homes_are_leveled c.calls_descend.ensures
