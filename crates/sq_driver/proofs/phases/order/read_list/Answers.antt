use Rattle.std.proofs.Common.{Err, ap}
use Rattle.sq_port.specs.declared.whole.ReadEnd.{ReadEnd}
use Rattle.sq_driver.proofs.OrderLists.{list_too_long, list_held, list_refused}
use Rattle.sq_driver.proofs.phases.order.read_list.Goals as goal

pub returns-in-Err-TooLong-clause-told : goal.returns-in-Err-TooLong-clause-told
returns-in-Err-TooLong-clause-told g c = λ k is.
    let found = c.in-Err-TooLong.ensures.told.too_long k is (ap (λ (e : ReadEnd). Err e) c.in-Err-TooLong.field-0-is) in
    (found.0, found.1, list_too_long found.0 c.too_long.result c.too_long.ensures found.2)

pub returns-in-Ok-read_picks-clause-told : goal.returns-in-Ok-read_picks-clause-told
returns-in-Ok-read_picks-clause-told g c =
    list_held _ c.args.name.now c.in-Ok.text c.in-Ok.ensures.told.ok _ c.as_slice.ensures c.in-Ok-read_picks.picks
    c.in-Ok-read_picks.ensures

pub returns-in-Err-Refused-clause-told : goal.returns-in-Err-Refused-clause-told
returns-in-Err-Refused-clause-told g c =
    list_refused _ c.args.name.now c.in-Ok.text c.in-Ok.ensures.told.ok _ c.as_slice.ensures c.in-Err-Refused.field-0
    c.in-Err-Refused.fault c.in-Err-Refused.field-0-is c.in-Err-Refused.ensures
