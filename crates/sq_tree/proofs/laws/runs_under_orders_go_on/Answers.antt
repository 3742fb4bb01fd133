use Rattle.sq_leaf.specs.declared.trap.Trap.{Trap}
use Rattle.sq_ir.specs.Events.{Event, Spot}
use Rattle.sq_ir.specs.Scopes.{Scope}
use Rattle.sq_tree.proofs.Unders.{runs_under_go_on}
use Rattle.sq_tree.proofs.laws.runs_under_orders_go_on.Goals as goal

pub returns : goal.returns
returns c = runs_under_go_on Event Scope Spot Trap
