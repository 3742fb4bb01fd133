use Rattle.std.proofs.Common.{[]}
use Rattle.sq_tune_text.proofs.table.put_accepted.Goals as goal

pub returns-clause-wrote : goal.returns-clause-wrote
returns-clause-wrote g c = c.put.ensures.wrote _ _ _ (c.add_accepted.ensures.gathers _ _ [] (c.new-line.ensures.begins _ _))
