use Rattle.sq_planread.proofs.Whole.{lines_or_fault, stands_for_one}
use Rattle.sq_planread.proofs.Unique.{one_fault, no_fault}
use Rattle.sq_planread.proofs.laws.tokens_are_lines_or_have_a_fault.Goals as goal

pub returns-clause-either : goal.returns-clause-either
returns-clause-either c = λ ts end. lines_or_fault ts end

pub returns-clause-never_both : goal.returns-clause-never_both
returns-clause-never_both c = λ ts x f s h. no_fault ts x f s h

pub returns-clause-one_text : goal.returns-clause-one_text
returns-clause-one_text c = λ ts x y s t. stands_for_one ts x y s t

pub returns-clause-one_fault : goal.returns-clause-one_fault
returns-clause-one_fault c = λ ts f g h k. one_fault ts f g h k
