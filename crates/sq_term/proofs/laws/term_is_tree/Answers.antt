use Rattle.sq_term.proofs.Whole.{term_is_tree as lemma}
use Rattle.sq_term.proofs.laws.term_is_tree.Goals as goal

pub returns : goal.returns
returns c = lemma
