use Rattle.sq_port.proofs.Gained.{wrote_nothing}
use Rattle.sq_driver.specs.Texts.{usage_line}
use Rattle.sq_driver.proofs.outside.end.put_usage_line.Goals as goal

pub returns-clause-wrote : goal.returns-clause-wrote
unfolding usage_line
returns-clause-wrote g c = c.put_next.ensures.wrote _ _ _ (wrote_nothing _ _)
