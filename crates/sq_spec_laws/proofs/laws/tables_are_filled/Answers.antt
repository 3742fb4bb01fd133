use Rattle.sq_spec_laws.proofs.FilledHold.{served_are_full, tables_are_full}
use Rattle.sq_spec_laws.proofs.laws.tables_are_filled.Goals as goal

pub returns : goal.returns
returns c = record { served = served_are_full; forms = tables_are_full }
