use Rattle.sq_report.proofs.Pieces.{and_then}
use Rattle.sq_tune_text.proofs.table.add_accepted.Goals as goal

pub returns : goal.returns
returns g c = and_then (and_then c.add_choice.ensures c.add_field.ensures) c.add.ensures
