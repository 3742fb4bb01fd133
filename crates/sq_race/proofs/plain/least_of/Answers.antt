use Rattle.sq_race.proofs.Leasts.{least_if}
use Rattle.sq_race.proofs.plain.least_of.Goals as goal

pub returns-then-are_in_order : goal.returns-then-are_in_order
returns-then-are_in_order c = least_if c.args.map.now c.args.uses.now c.first_pair.result (c.are_in_order.ensures c.if-are_in_order.true) c.first_pair.ensures
