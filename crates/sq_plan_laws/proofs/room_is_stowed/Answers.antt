use Rattle.sq_plan_laws.proofs.Rooms.{room_is_stowed}
use Rattle.sq_plan_laws.proofs.room_is_stowed.Goals as goal

pub returns : goal.returns
returns g = room_is_stowed
