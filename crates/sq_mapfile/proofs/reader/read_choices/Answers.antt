use Rattle.std.proofs.Common.{arith}
use Rattle.sq_mapfile.specs.declared.text.Tunables.TheVariants.{Varied}
use Rattle.sq_mapfile.specs.declared.choices.Choices.{Choices}
use Rattle.sq_mapfile.specs.Choices.{BreaksChoices}
use Rattle.sq_mapfile.proofs.Files.{lexed_by, writes, same_written, syntax_answer, rules_answer}
use Rattle.sq_mapfile.proofs.Readable.{choices_stand, choices_sound, choices_alone}
use Rattle.sq_mapfile.proofs.reader.read_choices.Goals as goal

pub returns-in-Err-parse-clause-answers : goal.returns-in-Err-parse-clause-answers
returns-in-Err-parse-clause-answers c =
    syntax_answer Varied c.args.text.now (BreaksChoices c.args.typed.now c.args.machine.now.levels) Choices c.in-Ok.tokens c.in-Err-parse.stop
    (lexed_by c.args.text.now c.in-Ok.tokens c.in-Ok.ensures.found c.in-Ok.ensures.fits c.in-Ok.ensures.refuses c.in-Ok.ensures.only)
    (rw c.as_slice.ensures at c.in-Err-parse.ensures.refused)

pub returns-clause-answers : goal.returns-clause-answers
returns-clause-answers c =
    rules_answer Varied c.args.text.now (BreaksChoices c.args.typed.now c.args.machine.now.levels) c.in-Ok.tokens c.in-Ok-parse.written c.judged_choices.result
    (lexed_by c.args.text.now c.in-Ok.tokens c.in-Ok.ensures.found c.in-Ok.ensures.fits c.in-Ok.ensures.refuses c.in-Ok.ensures.only)
    (rw c.as_slice.ensures at c.in-Ok-parse.ensures.found)
    (rw c.levels.ensures.items at (rw c.program.ensures.same at c.judged_choices.ensures.answers))

pub returns-clause-found : goal.returns-clause-found
returns-clause-found c =
    let lexed = (lexed_by c.args.text.now c.in-Ok.tokens c.in-Ok.ensures.found c.in-Ok.ensures.fits c.in-Ok.ensures.refuses c.in-Ok.ensures.only) in
    let read = rw c.as_slice.ensures at c.in-Ok-parse.ensures.found in
    choices_stand c.args.typed.now c.args.machine.now.levels c.args.text.now c.in-Ok-parse.written (writes Varied c.args.text.now c.in-Ok.tokens c.in-Ok-parse.written lexed read)
    c.judged_choices.result (rw c.levels.ensures.items at c.judged_choices.ensures.found)

pub returns-clause-sound : goal.returns-clause-sound
returns-clause-sound c =
    let within = c.levels.ensures.within.few in
    let lexed = (lexed_by c.args.text.now c.in-Ok.tokens c.in-Ok.ensures.found c.in-Ok.ensures.fits c.in-Ok.ensures.refuses c.in-Ok.ensures.only) in
    let read = rw c.as_slice.ensures at c.in-Ok-parse.ensures.found in
    choices_sound c.args.typed.now c.args.machine.now.levels c.args.text.now c.in-Ok-parse.written (writes Varied c.args.text.now c.in-Ok.tokens c.in-Ok-parse.written lexed read)
    c.judged_choices.result (omega (arith, within)) (rw c.levels.ensures.items at (rw c.program.ensures.same at c.judged_choices.ensures.answers))
    (rw c.levels.ensures.items at c.judged_choices.ensures.found)

pub returns-clause-alone : goal.returns-clause-alone
returns-clause-alone c =
    let within = c.levels.ensures.within.few in
    let lexed = (lexed_by c.args.text.now c.in-Ok.tokens c.in-Ok.ensures.found c.in-Ok.ensures.fits c.in-Ok.ensures.refuses c.in-Ok.ensures.only) in
    let read = rw c.as_slice.ensures at c.in-Ok-parse.ensures.found in
    choices_alone c.args.typed.now c.args.machine.now.levels c.args.text.now c.in-Ok-parse.written (writes Varied c.args.text.now c.in-Ok.tokens c.in-Ok-parse.written lexed read)
    c.judged_choices.result (omega (arith, within)) (rw c.levels.ensures.items at (rw c.program.ensures.same at c.judged_choices.ensures.answers))
    (rw c.levels.ensures.items at c.judged_choices.ensures.found)
    c.each_text_has_tokens_or_breaks.ensures.one_list c.each_text_has_tokens_or_breaks.ensures.never_both
    (λ other w. same_written Varied c.args.text.now c.in-Ok.tokens c.in-Ok-parse.written lexed read other w)
