use Rattle.sq_words.specs.Words.{tune_of}
use Rattle.sq_driver.proofs.Evaluations.{evaluates_same}
use Rattle.sq_driver.proofs.Finals.{front_held, causes_after}
use Rattle.sq_driver.proofs.Tuning.{front_ends}
use Rattle.sq_driver.proofs.commands.tune.tune_program.Goals as goal

pub returns-in-Err-clause-evaluated : goal.returns-in-Err-clause-evaluated
returns-in-Err-clause-evaluated g c =
    front_ends c.args.words.now.program.now c.args.words.now.mapping.now c.args.words.now.machine.now
    _ _ _ c.in-Err.end c.in-Err.ensures.stopped

pub tune_mapping-requires : goal.tune_mapping-requires
tune_mapping-requires g c =
    front_held c.args.words.now.program.now c.args.words.now.machine.now _ _ c.in-Ok.front.typed c.in-Ok.front.machine
    c.in-Ok.ensures.content c.in-Ok.ensures.held

pub returns-clause-evaluated : goal.returns-clause-evaluated
returns-clause-evaluated g c =
    evaluates_same (tune_of c.args.words.now.program.now c.args.words.now.mapping.now c.args.words.now.machine.now)
    _ _ _ _ _ _ c.tune_mapping.result c.in-Ok.ensures.content c.tune_mapping.ensures.evaluated

pub returns-clause-cause : goal.returns-clause-cause
returns-clause-cause g c = causes_after _ _ _ _ _ _ _ c.in-Ok.ensures.cause c.tune_mapping.ensures.cause
