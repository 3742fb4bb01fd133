use Rattle.std.proofs.Common.{refl}
use Rattle.sq_driver.proofs.Planning.{plan_names, on_plan, on_plan_ends}
use Rattle.sq_words.specs.Words.{plan_of}
use Rattle.sq_driver.proofs.commands.plan.PlanPerform.perform.Goals as goal

pub returns-clause-ended : goal.returns-clause-ended
returns-clause-ended g c =
    on_plan_ends (plan_of c.args.self.now.program.now c.args.self.now.mapping.now c.args.self.now.machine.now)
    (plan_names c.args.self.now.program.now c.args.self.now.mapping.now c.args.self.now.machine.now)
    (on_plan c.args.self.now.program.now c.args.self.now.mapping.now c.args.self.now.machine.now)
    _ _ refl refl refl c.on_plan.result c.on_plan.ensures.evaluated
