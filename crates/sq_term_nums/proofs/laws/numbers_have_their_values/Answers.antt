use Rattle.sq_term_nums.proofs.Values.{value-is, count-is}
use Rattle.sq_term_nums.proofs.laws.numbers_have_their_values.Goals as goal

pub returns-clause-values : goal.returns-clause-values
returns-clause-values c = λ s env at ag. value-is s env at ag

pub returns-clause-counts : goal.returns-clause-counts
returns-clause-counts c = λ s env at ag. count-is s env at ag
