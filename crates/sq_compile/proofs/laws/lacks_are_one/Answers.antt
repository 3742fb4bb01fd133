use Rattle.sq_compile.proofs.Told.{lacks_are_one, first_lacks_are_one, first_lack_is_one}
use Rattle.sq_compile.proofs.laws.lacks_are_one.Goals as goal

pub returns-clause-lacks : goal.returns-clause-lacks
returns-clause-lacks c = lacks_are_one

pub returns-clause-firsts : goal.returns-clause-firsts
returns-clause-firsts c = first_lacks_are_one

pub returns-clause-one : goal.returns-clause-one
returns-clause-one c = first_lack_is_one
