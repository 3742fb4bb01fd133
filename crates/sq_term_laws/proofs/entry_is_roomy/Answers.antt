use Rattle.sq_term_laws.proofs.Roomed.{entry_is_roomy as lemma}
use Rattle.sq_term_laws.proofs.entry_is_roomy.Goals as goal

pub returns : goal.returns
returns c = lemma
