use Rattle.std.proofs.Common.{inl}
use Rattle.sq_forms.specs.Forms.{IsFirstMet}
use Rattle.sq_driver.specs.Choosing.{IsRow}
use Rattle.sq_driver.proofs.Finals.{resolved_at}
use Rattle.sq_driver.proofs.Passing.{refused_row, row_at}
use Rattle.sq_driver.proofs.phases.passes.PassesPlanner.row.Goals as goal

pub resolved_row-requires : goal.resolved_row-requires
resolved_row-requires c = resolved_at c.args.self.now.typed.now c.args.self.now.machine.now c.args.mapping.now
    c.in-Ok.resolved (record {
      tree_is = c.in-Ok.ensures.program;
      machine_is = c.in-Ok.ensures.machine;
      mapping_is = c.in-Ok.ensures.mapping;
      forms = c.in-Ok.ensures.forms;
      found = c.in-Ok.ensures.found;
    })

pub returns-in-Ok-clause-row : goal.returns-in-Ok-clause-row
returns-in-Ok-clause-row c = row_at c.in-Ok.resolved.typed.now c.args.self.now.typed.now c.in-Ok.resolved.machine.now
    c.args.self.now.machine.now c.in-Ok.resolved.mapping.now c.args.mapping.now c.resolved_row.result
    c.in-Ok.ensures.program c.in-Ok.ensures.machine c.in-Ok.ensures.mapping c.resolved_row.ensures

pub returns-in-Err-clause-row : goal.returns-in-Err-clause-row
returns-in-Err-clause-row c = refused_row (IsFirstMet c.args.self.now.typed.now c.args.mapping.now)
    (IsRow c.args.self.now.typed.now c.args.self.now.machine.now c.args.mapping.now)
    c.in-Err.end c.refused.result c.in-Err.ensures.refused c.refused.ensures (λ its fails. inl fails)
