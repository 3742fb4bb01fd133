use Rattle.std.proofs.Common.{refl}
use Rattle.sq_words.specs.Words.{compile_of}
use Rattle.sq_driver.proofs.FilePhase.{on_compile}
use Rattle.sq_driver.proofs.Planning.{plan_names, on_plan_ends}
use Rattle.sq_driver.proofs.commands.compile.CompilePerform.perform.Goals as goal

pub returns-clause-ended : goal.returns-clause-ended
returns-clause-ended g c =
    on_plan_ends (compile_of c.args.self.now.program.now c.args.self.now.mapping.now c.args.self.now.machine.now)
    (plan_names c.args.self.now.program.now c.args.self.now.mapping.now c.args.self.now.machine.now)
    (on_compile c.args.self.now.program.now c.args.self.now.mapping.now c.args.self.now.machine.now)
    _ _ refl refl refl c.on_plan.result c.on_plan.ensures.evaluated
