use Rattle.sq_compile.proofs.Alike.{plans_are_one}
use Rattle.sq_compile.proofs.laws.plans_are_one.Goals as goal

pub returns : goal.returns
returns c = plans_are_one
