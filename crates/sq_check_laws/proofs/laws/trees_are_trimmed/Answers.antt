use Rattle.sq_check_laws.proofs.Trimming.{trees_are_trimmed}
use Rattle.sq_check_laws.proofs.Good.{trees_are_fresh}
use Rattle.sq_check_laws.proofs.laws.trees_are_trimmed.Goals as goal

pub returns-clause-trimmed : goal.returns-clause-trimmed
returns-clause-trimmed c = trees_are_trimmed

pub returns-clause-fresh : goal.returns-clause-fresh
returns-clause-fresh c = trees_are_fresh
