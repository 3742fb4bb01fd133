use Rattle.std.proofs.Common.{refl}
use Rattle.sq_driver.proofs.Tuning.{tune_ends}
use Rattle.sq_driver.proofs.commands.tune.TunePerform.perform.Goals as goal

pub returns-clause-ended : goal.returns-clause-ended
returns-clause-ended g c = tune_ends c.args.self.now.program.now c.args.self.now.mapping.now
    c.args.self.now.machine.now _ _ refl refl refl c.tune_program.result c.tune_program.ensures.evaluated
