use Rattle.sq_term_laws.proofs.Meeting.{term_is_fine as lemma}
use Rattle.sq_term_laws.proofs.term_is_fine.Goals as goal

pub returns : goal.returns
returns c = lemma
