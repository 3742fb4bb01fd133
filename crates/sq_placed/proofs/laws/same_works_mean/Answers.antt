use Rattle.sq_placed.proofs.SameWorks.{same_works_mean as lemma}
use Rattle.sq_placed.proofs.laws.same_works_mean.Goals as goal

pub returns : goal.returns
returns c = lemma
