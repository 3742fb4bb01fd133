use Rattle.sq_race.proofs.TextOrder.{in_text_order, numbered_in_text_order, stand_apart}
use Rattle.sq_race.proofs.laws.maps_stand_in_text_order.Goals as goal

pub returns-clause-order : goal.returns-clause-order
returns-clause-order c = in_text_order

pub returns-clause-number : goal.returns-clause-number
returns-clause-number c = numbered_in_text_order

pub returns-clause-apart : goal.returns-clause-apart
returns-clause-apart c = stand_apart
