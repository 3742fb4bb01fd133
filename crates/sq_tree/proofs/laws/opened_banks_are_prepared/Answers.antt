use Rattle.sq_tree.proofs.Prepared.{opened, puts}
use Rattle.sq_tree.proofs.laws.opened_banks_are_prepared.Goals as goal

pub returns-clause-opened : goal.returns-clause-opened
returns-clause-opened c = opened

pub returns-clause-put : goal.returns-clause-put
returns-clause-put c = puts
