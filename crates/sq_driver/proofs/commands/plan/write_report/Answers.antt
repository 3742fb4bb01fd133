use Rattle.std.proofs.Common.{ap, sym, ◌∙◌}
use Rattle.sq_machfile.specs.Machines.{Hierarchy}
use Rattle.sq_report.specs.Figures.{figures}
use Rattle.sq_report.specs.Reports.{report}
use Rattle.sq_driver.proofs.Entries.{gains_as, prefix_as}
use Rattle.sq_driver.proofs.commands.plan.write_report.Goals as goal

pub put_plan-requires : goal.put_plan-requires
put_plan-requires g c = c.requires ∙ ap (λ (m : Hierarchy). figures m c.args.plan.now) (sym c.machine.ensures)

pub returns-in-Ok-clause-wrote : goal.returns-in-Ok-clause-wrote
returns-in-Ok-clause-wrote g c = (
  gains_as _ _ _ _ (ap (λ (m : Hierarchy). report m c.args.plan.now) c.machine.ensures) c.in-Ok.ensures.wrote.ok.0,
  c.in-Ok.ensures.wrote.ok.1,
)

pub returns-in-Err-clause-wrote : goal.returns-in-Err-clause-wrote
returns-in-Err-clause-wrote g c = (
  prefix_as _ _ _ _ (ap (λ (m : Hierarchy). report m c.args.plan.now) c.machine.ensures)
      c.in-Err.ensures.wrote.failed.0,
  c.in-Err.ensures.wrote.failed.1,
  c.in-Err.ensures.later,
)
