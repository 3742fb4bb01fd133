use Rattle.std.proofs.Common.{◌∙◌}
use Rattle.sq_driver.proofs.Finals.{data_ends, run_ends, written}
use Rattle.sq_driver.proofs.commands.eval.eval_free.Goals as goal

pub returns-in-Err-clause-evaluated : goal.returns-in-Err-clause-evaluated
returns-in-Err-clause-evaluated g c =
    data_ends c.args.words.now.program.now c.args.words.now.mapping.now c.args.words.now.machine.now
    c.args.words.now.input.now _ _ _ c.args.resolved.now c.requires.forms c.requires.holds c.requires.free
    c.in-Err.end c.in-Err.ensures.given

pub returns-in-Err-eval_given-clause-evaluated : goal.returns-in-Err-eval_given-clause-evaluated
returns-in-Err-eval_given-clause-evaluated g c =
    run_ends c.args.words.now.program.now c.args.words.now.mapping.now c.args.words.now.machine.now
    c.args.words.now.input.now _ c.args.resolved.now c.requires.forms c.requires.holds c.requires.free
    (c.entry_is_first.ensures c.args.resolved.now) c.in-Ok.given c.in-Ok.ensures.given _ _ c.in-Err-eval_given.end
    c.in-Err-eval_given.ensures.ends

pub write_outputs-requires-clause-shapes : goal.write_outputs-requires-clause-shapes
write_outputs-requires-clause-shapes g c = c.in-Ok-eval_given.ensures.shapes ∙ c.in-Ok.ensures.shapes

pub returns-clause-evaluated : goal.returns-clause-evaluated
returns-clause-evaluated g c =
    written c.args.words.now.program.now c.args.words.now.mapping.now c.args.words.now.machine.now
    c.args.words.now.input.now _ c.args.resolved.now c.requires.forms c.requires.holds c.requires.free
    (c.entry_is_first.ensures c.args.resolved.now) c.in-Ok.given c.in-Ok.ensures.given
    c.in-Ok-eval_given.arrays (c.in-Ok-eval_given.ensures.shapes ∙ c.in-Ok.ensures.shapes)
    c.in-Ok-eval_given.ensures.ends _ _ _ _ c.write_outputs.result
    (c.write_outputs.ensures.wrote (c.entry_is_first.ensures c.args.resolved.now).extents
    (c.entry_is_first.ensures c.args.resolved.now).fit)
