use Rattle.sq_overlap_laws.proofs.Ends.{taken_need_is_one}
use Rattle.sq_overlap_laws.proofs.Rooms.{taken_exactly}
use Rattle.sq_overlap_laws.proofs.laws.room_is_exact.Goals as goal

pub returns-clause-one : goal.returns-clause-one
returns-clause-one c = taken_need_is_one

pub returns-clause-exact : goal.returns-clause-exact
returns-clause-exact c = taken_exactly
