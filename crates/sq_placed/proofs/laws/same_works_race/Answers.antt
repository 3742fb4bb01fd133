use Rattle.sq_placed.proofs.SameWorks.{same_works_race as lemma}
use Rattle.sq_placed.proofs.laws.same_works_race.Goals as goal

pub returns : goal.returns
returns c = lemma
