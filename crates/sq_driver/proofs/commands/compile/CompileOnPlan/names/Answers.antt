use Rattle.sq_driver.proofs.FilePhase.{on_compile}
use Rattle.sq_driver.proofs.commands.compile.CompileOnPlan.names.Goals as goal

pub returns-clause-on : goal.returns-clause-on
returns-clause-on c = on_compile c.args.self.now.program.now c.args.self.now.mapping.now c.args.self.now.machine.now
