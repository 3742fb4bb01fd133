use Rattle.sq_words.specs.Words.{tune_of}
use Rattle.sq_driver.proofs.Evaluations.{no_memory}
use Rattle.sq_driver.proofs.Tuning.{choices_end, table_written}
use Rattle.sq_driver.proofs.commands.tune.tune_mapping.Goals as goal

pub returns-in-Err-clause-evaluated : goal.returns-in-Err-clause-evaluated
returns-in-Err-clause-evaluated g c =
    choices_end c.args.words.now.program.now c.args.words.now.mapping.now c.args.words.now.machine.now
    _ c.args.typed.now c.args.machine.now c.requires _ _ c.in-Err.end c.in-Err.ensures.told

pub returns-in-Ok-tried-clause-evaluated : goal.returns-in-Ok-tried-clause-evaluated
returns-in-Ok-tried-clause-evaluated g c =
    table_written c.args.words.now.program.now c.args.words.now.mapping.now c.args.words.now.machine.now
    _ c.args.typed.now c.args.machine.now c.requires c.in-Ok.choices c.in-Ok.ensures.told c.in-Ok-tried.table
    c.in-Ok-tried.ensures _ _ _ _ c.write_table.result c.write_table.ensures.wrote

pub returns-clause-evaluated : goal.returns-clause-evaluated
returns-clause-evaluated g c =
    no_memory (tune_of c.args.words.now.program.now c.args.words.now.mapping.now c.args.words.now.machine.now) _ _ _
