use Rattle.sq_event_laws.proofs.Counting.{events_are_calls, names_are_counted}
use Rattle.sq_event_laws.proofs.laws.leaf_events_are_leaf_calls.Goals as goal

pub returns-clause-calls : goal.returns-clause-calls
returns-clause-calls c = events_are_calls

pub returns-clause-names : goal.returns-clause-names
returns-clause-names c = names_are_counted
