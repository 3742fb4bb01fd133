use Rattle.sq_draft_laws.proofs.Standing.{forms_stand}
use Rattle.sq_draft_laws.proofs.laws.forms_have_their_buffers.Goals as goal

pub returns : goal.returns
returns c = forms_stand
