use Rattle.sq_term_laws.proofs.Meeting.{entry_is_fine as lemma}
use Rattle.sq_term_laws.proofs.entry_is_fine.Goals as goal

pub returns : goal.returns
returns c = lemma
