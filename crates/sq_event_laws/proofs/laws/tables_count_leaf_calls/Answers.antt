use Rattle.sq_event_laws.proofs.Forms.{tables_count}
use Rattle.sq_event_laws.proofs.laws.tables_count_leaf_calls.Goals as goal

pub returns : goal.returns
returns c = tables_count
