use Rattle.std.proofs.Common.{Err, ap}
use Rattle.sq_port.specs.declared.whole.ReadEnd.{ReadEnd}
use Rattle.sq_driver.proofs.Reading.{fits_plan, too_long_plan}
use Rattle.sq_driver.proofs.phases.plans.read_text.Goals as goal

pub returns-in-Ok-clause-told : goal.returns-in-Ok-clause-told
returns-in-Ok-clause-told g c = (fits_plan c.in-Ok.text c.in-Ok.ensures.told.ok_short, c.in-Ok.ensures.told.ok)

pub returns-in-Err-TooLong-clause-told : goal.returns-in-Err-TooLong-clause-told
returns-in-Err-TooLong-clause-told g c = λ k is.
    let found = c.in-Err-TooLong.ensures.told.too_long k is (ap (λ (e : ReadEnd). Err e) c.in-Err-TooLong.field-0-is) in
    (found.0, found.1, too_long_plan found.0 found.2, c.too_long.ensures)
