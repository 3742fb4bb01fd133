use Rattle.sq_report.proofs.Pieces.{and_then}
use Rattle.sq_tune_text.proofs.settings.add_told.Goals as goal

pub returns : goal.returns
returns g c = rw (c.bytes.ensures, c.bytes-2.ensures, c.pick.ensures) at
    (and_then (and_then (and_then (and_then (and_then c.add.ensures c.add-2.ensures) c.add-3.ensures) c.add-4.ensures) c.add-5.ensures) c.add_setting.ensures)
