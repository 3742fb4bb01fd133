use Rattle.sq_nests.proofs.Room.{laid_have_room}
use Rattle.sq_nests.proofs.laws.laid_buffers_have_room.Goals as goal

pub returns : goal.returns
returns c = laid_have_room
