use Rattle.sq_driver.proofs.CostPhase.{on_span}
use Rattle.sq_driver.proofs.commands.span.SpanOnPlan.names.Goals as goal

pub returns-clause-on : goal.returns-clause-on
returns-clause-on c = on_span c.args.self.now.program.now c.args.self.now.mapping.now c.args.self.now.machine.now
    c.args.self.now.cost.now
