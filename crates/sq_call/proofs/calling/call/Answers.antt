use Rattle.sq_call.proofs.Telling.{no_file_fault, no_sink_fault, names_none}
use Rattle.sq_call.proofs.calling.call.Goals as goal

pub returns-clause-says : goal.returns-clause-says
returns-clause-says c = c.called.ensures.says

pub returns-clause-only : goal.returns-clause-only
returns-clause-only c = c.called.ensures.only

pub returns-clause-no_file_fault : goal.returns-clause-no_file_fault
returns-clause-no_file_fault c = no_file_fault c.called.ensures.says

pub returns-clause-no_sink_fault : goal.returns-clause-no_sink_fault
returns-clause-no_sink_fault c = no_sink_fault c.called.ensures.says

pub returns-clause-absent : goal.returns-clause-absent
returns-clause-absent c = names_none c.called.ensures.says

pub returns-clause-demo : goal.returns-clause-demo
returns-clause-demo c = c.called.ensures.demo
