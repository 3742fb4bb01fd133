use Rattle.sq_draft_laws.proofs.Descending.{calls_descend}
use Rattle.sq_draft_laws.proofs.laws.calls_descend.Goals as goal

pub returns : goal.returns
returns c = calls_descend c.forms_are_those_found.ensures.many
