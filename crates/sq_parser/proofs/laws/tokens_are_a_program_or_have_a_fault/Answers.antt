use Rattle.sq_parser.proofs.Whole.{whole, same_program}
use Rattle.sq_parser.proofs.Unique.{one_fault, no_fault}
use Rattle.sq_parser.proofs.laws.tokens_are_a_program_or_have_a_fault.Goals as goal

pub returns-clause-either : goal.returns-clause-either
returns-clause-either c = λ ts end. whole ts end

pub returns-clause-never_both : goal.returns-clause-never_both
returns-clause-never_both c = λ ts p f s h. no_fault ts p f s h

pub returns-clause-one_program : goal.returns-clause-one_program
returns-clause-one_program c = λ ts p q s t. same_program ts p q s t

pub returns-clause-one_fault : goal.returns-clause-one_fault
returns-clause-one_fault c = λ ts f g h k. one_fault ts f g h k
