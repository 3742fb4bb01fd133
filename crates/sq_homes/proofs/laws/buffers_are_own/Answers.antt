use Rattle.sq_homes.proofs.Numbered.{homes_are_own, locals_are_own}
use Rattle.sq_homes.proofs.laws.buffers_are_own.Goals as goal

pub returns-clause-params : goal.returns-clause-params
returns-clause-params c = homes_are_own

pub returns-clause-locals : goal.returns-clause-locals
returns-clause-locals c = locals_are_own
