use Rattle.sq_draft_laws.proofs.Programs.{bodies_are_tables}
use Rattle.sq_draft_laws.proofs.laws.bodies_are_tables.Goals as goal

pub returns : goal.returns
returns c = bodies_are_tables c.forms_are_those_found.ensures.many
