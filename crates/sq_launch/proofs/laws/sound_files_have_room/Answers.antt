use Rattle.sq_launch.proofs.Rooms.{sound_files_have_room}
use Rattle.sq_launch.proofs.laws.sound_files_have_room.Goals as goal

pub returns : goal.returns
returns c = sound_files_have_room
