use Rattle.sq_event_laws.proofs.Codes.{codes_are_apart}
use Rattle.sq_event_laws.proofs.Running.{events_run}
use Rattle.sq_event_laws.proofs.laws.leaf_events_run_their_forms.Goals as goal

pub returns-clause-run : goal.returns-clause-run
returns-clause-run c = events_run

pub returns-clause-apart : goal.returns-clause-apart
returns-clause-apart c = codes_are_apart
