use Rattle.sq_driver.proofs.Planning.{on_plan}
use Rattle.sq_driver.proofs.commands.plan.PlanOnPlan.names.Goals as goal

pub returns-clause-on : goal.returns-clause-on
returns-clause-on c = on_plan c.args.self.now.program.now c.args.self.now.mapping.now c.args.self.now.machine.now
