use Rattle.sq_draft_laws.proofs.Programs.{term_is_entrys}
use Rattle.sq_draft_laws.proofs.laws.terms_are_those_of_entries.Goals as goal

pub returns : goal.returns
returns c = term_is_entrys
