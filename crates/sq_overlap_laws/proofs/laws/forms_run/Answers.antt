use Rattle.sq_overlap_laws.proofs.Called.{forms_are_called, forms_run_somewhere}
use Rattle.sq_overlap_laws.proofs.laws.forms_run.Goals as goal

pub returns-clause-called : goal.returns-clause-called
returns-clause-called c = forms_are_called

pub returns-clause-run : goal.returns-clause-run
returns-clause-run c = forms_run_somewhere
