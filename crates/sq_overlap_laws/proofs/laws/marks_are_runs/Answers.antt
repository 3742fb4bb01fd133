use Rattle.sq_overlap_laws.proofs.Exact.{marks_are_runs}
use Rattle.sq_overlap_laws.proofs.Nodes.{room_is_least, children_are_most}
use Rattle.sq_overlap_laws.proofs.laws.marks_are_runs.Goals as goal

pub returns-clause-marks : goal.returns-clause-marks
returns-clause-marks c = marks_are_runs

pub returns-clause-room : goal.returns-clause-room
returns-clause-room c = room_is_least

pub returns-clause-children : goal.returns-clause-children
returns-clause-children c = children_are_most
