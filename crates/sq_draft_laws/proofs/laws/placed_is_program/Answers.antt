use Rattle.sq_draft_laws.proofs.Programs.{placed_is_program}
use Rattle.sq_draft_laws.proofs.laws.placed_is_program.Goals as goal

pub returns : goal.returns
returns c = placed_is_program c.placed_is_work.ensures c.forms_are_those_found.ensures.many c.entry_is_first.ensures
