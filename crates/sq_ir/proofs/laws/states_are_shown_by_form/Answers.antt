use Rattle.sq_ir.proofs.StateLaws.{holds_where_open, have_room_where_open, unordered_by_form, independent_by_form}
use Rattle.sq_ir.proofs.laws.states_are_shown_by_form.Goals as goal

pub returns-clause-opened : goal.returns-clause-opened
returns-clause-opened g c = holds_where_open _ _

pub returns-clause-room : goal.returns-clause-room
returns-clause-room g c = have_room_where_open

pub returns-clause-unordered : goal.returns-clause-unordered
returns-clause-unordered g c = unordered_by_form _ _

pub returns-clause-independent : goal.returns-clause-independent
returns-clause-independent g c = independent_by_form _
