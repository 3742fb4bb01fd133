use Rattle.std.proofs.Common.{refl}
use Rattle.sq_driver.proofs.Evaluations.{ends}
use Rattle.sq_driver.proofs.commands.eval.EvalPerform.perform.Goals as goal

pub returns-clause-ended : goal.returns-clause-ended
returns-clause-ended g c = ends c.args.self.now.program.now c.args.self.now.mapping.now c.args.self.now.machine.now
    c.args.self.now.input.now _ _ refl refl refl c.eval_program.result c.eval_program.ensures.evaluated
