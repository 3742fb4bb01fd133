use Rattle.sq_port.proofs.Gained.{wrote_nothing}
use Rattle.sq_driver.proofs.outside.end.put_end.Goals as goal

pub returns-in-NoMemory-clause-wrote : goal.returns-in-NoMemory-clause-wrote
returns-in-NoMemory-clause-wrote g c = rw c.in-NoMemory.is (c.put_next.ensures.wrote _ _ _ (wrote_nothing _ _))
