use Rattle.sq_report.proofs.Pieces.{as_piece}
use Rattle.sq_tune_text.proofs.Walked.{settings_are}
use Rattle.sq_tune_text.proofs.settings.add_settings.Goals as goal

pub returns : goal.returns
returns g c = as_piece (settings_are c.args.choices.now c.args.n) (rw (c.digits-digits.ensures, c.as_slice.ensures, c.first.ensures) at c.add_walk.ensures)
