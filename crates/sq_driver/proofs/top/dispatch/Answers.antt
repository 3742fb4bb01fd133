use Rattle.sq_driver.proofs.Answering.{none_executed}
use Rattle.sq_driver.proofs.top.dispatch.Goals as goal

pub returns-in-None-clause-executed : goal.returns-in-None-clause-executed
returns-in-None-clause-executed g c = none_executed _ _ c.in-None.ensures
