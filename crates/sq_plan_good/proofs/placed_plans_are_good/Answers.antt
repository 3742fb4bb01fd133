use Rattle.sq_plan_good.proofs.Good.{placed_are_good}
use Rattle.sq_plan_good.proofs.placed_plans_are_good.Goals as goal

pub returns : goal.returns
returns c = placed_are_good c.plans_with_room_are_good.ensures c.the_walk_lays_buffers.ensures.many
