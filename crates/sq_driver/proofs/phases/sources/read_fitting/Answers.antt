use Rattle.std.proofs.Common.{Err, ap}
use Rattle.sq_port.specs.declared.whole.ReadEnd.{ReadEnd}
use Rattle.sq_driver.proofs.Reading.{fits_file, too_long}
use Rattle.sq_driver.proofs.phases.sources.read_fitting.Goals as goal

pub returns-in-Ok-clause-told : goal.returns-in-Ok-clause-told
returns-in-Ok-clause-told g c =
    (fits_file c.args.phase c.in-Ok.text c.requires c.in-Ok.ensures.told.ok_short, c.in-Ok.ensures.told.ok)

pub returns-in-Err-TooLong-clause-told : goal.returns-in-Err-TooLong-clause-told
returns-in-Err-TooLong-clause-told g c = λ k is.
    let found = c.in-Err-TooLong.ensures.told.too_long k is (ap (λ (e : ReadEnd). Err e) c.in-Err-TooLong.field-0-is) in
    (found.0, found.1, too_long c.args.phase found.0 c.requires found.2, c.too_long.ensures)
