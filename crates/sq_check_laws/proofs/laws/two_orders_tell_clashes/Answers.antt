use Rattle.sq_check_laws.proofs.Orders.{unordered_are_inverted, clashes_are_listed}
use Rattle.sq_check_laws.proofs.laws.two_orders_tell_clashes.Goals as goal

pub returns-clause-inverted : goal.returns-clause-inverted
returns-clause-inverted g c = unordered_are_inverted _ _

pub returns-clause-listed : goal.returns-clause-listed
returns-clause-listed g c = clashes_are_listed _
