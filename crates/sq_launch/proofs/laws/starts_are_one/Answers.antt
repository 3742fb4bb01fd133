use Rattle.sq_launch.proofs.Starts.{starts_are_one}
use Rattle.sq_launch.proofs.Texting.{roots_are_texts}
use Rattle.sq_launch.proofs.laws.starts_are_one.Goals as goal

pub returns-clause-one : goal.returns-clause-one
returns-clause-one c = starts_are_one

pub returns-clause-texts : goal.returns-clause-texts
returns-clause-texts c = roots_are_texts
