use Rattle.std.proofs.Common.{refl}
use Rattle.sq_words.specs.Words.{span_of}
use Rattle.sq_driver.proofs.CostPhase.{on_span}
use Rattle.sq_driver.proofs.Planning.{plan_names, on_plan_ends}
use Rattle.sq_driver.proofs.commands.span.SpanPerform.perform.Goals as goal

pub returns-clause-ended : goal.returns-clause-ended
returns-clause-ended g c =
    on_plan_ends (span_of c.args.self.now.program.now c.args.self.now.mapping.now c.args.self.now.machine.now
    c.args.self.now.cost.now)
    (plan_names c.args.self.now.program.now c.args.self.now.mapping.now c.args.self.now.machine.now)
    (on_span c.args.self.now.program.now c.args.self.now.mapping.now c.args.self.now.machine.now
    c.args.self.now.cost.now)
    _ _ refl refl refl c.on_plan.result c.on_plan.ensures.evaluated
