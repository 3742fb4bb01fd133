use Rattle.std.proofs.Common.{inl, inr}
use Rattle.sq_driver.specs.Choosing.{IsRow}
use Rattle.sq_driver.specs.Races.{IsFirstRaceFault}
use Rattle.sq_driver.proofs.Passing.{refused_row}
use Rattle.sq_driver.proofs.phases.passes.resolved_row.Goals as goal

pub returns-in-Err : goal.returns-in-Err
returns-in-Err c = refused_row (IsFirstRaceFault c.args.resolved.now)
    (IsRow c.args.resolved.now.typed.now c.args.resolved.now.machine.now c.args.resolved.now.mapping.now)
    c.in-Err.end c.refused.result c.in-Err.ensures.refused c.refused.ensures
    (λ its fails. inr (inl (record { forms = c.args.resolved.now; are = c.requires; first = fails })))
