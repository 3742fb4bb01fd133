use Rattle.sq_overlap_laws.proofs.Rooms.{loops_are_taken_in_turn, taken_are_one}
use Rattle.sq_overlap_laws.proofs.laws.loops_are_taken_in_turn.Goals as goal

pub returns-clause-turn : goal.returns-clause-turn
returns-clause-turn c = loops_are_taken_in_turn

pub returns-clause-one : goal.returns-clause-one
returns-clause-one c = taken_are_one
