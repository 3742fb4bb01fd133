use Rattle.std.proofs.Common.{inr}
use Rattle.sq_driver.specs.Capacity.{IsFirstCapacityFault}
use Rattle.sq_driver.specs.Choosing.{IsRow}
use Rattle.sq_driver.proofs.Passing.{refused_row, accepted_row}
use Rattle.sq_driver.proofs.phases.passes.planned_row.Goals as goal

pub returns-in-Ok : goal.returns-in-Ok
returns-in-Ok c = accepted_row c.args.resolved.now c.in-Ok.plan c.accepted-row.result c.requires.forms c.requires.free
    c.in-Ok.ensures.its c.accepted-row.ensures

pub returns-in-Err : goal.returns-in-Err
returns-in-Err c = refused_row (IsFirstCapacityFault c.args.resolved.now)
    (IsRow c.args.resolved.now.typed.now c.args.resolved.now.machine.now c.args.resolved.now.mapping.now)
    c.in-Err.end c.refused.result c.in-Err.ensures.refused c.refused.ensures
    (λ its fails. inr (inr (record {
      forms = c.args.resolved.now;
      are = c.requires.forms;
      free = c.requires.free;
      first = fails;
    })))
