use Rattle.std.proofs.Common.{arith}
use Rattle.sq_mapfile.specs.declared.text.Tunables.TheVariants.{Fixed}
use Rattle.sq_mapping.specs.declared.mapping.Mapping.{Mapping}
use Rattle.sq_mapfile.specs.Mappings.{BreaksRule}
use Rattle.sq_mapfile.proofs.Files.{lexed_by, syntax_answer, rules_answer, none_written, none_lexed}
use Rattle.sq_mapfile.proofs.Whole.{rules_stand, rules_sound, one_stands, refused_gives, lexer_gives, sound_given}
use Rattle.sq_mapfile.proofs.reader.read_mapping.Goals as goal

pub returns-in-Err-clause-only : goal.returns-in-Err-clause-only
returns-in-Err-clause-only c = λ mapping s none. lexer_gives c.args.typed.now c.args.machine.now.levels c.args.text.now c.in-Err.stop mapping c.in-Err.ensures.only s

pub returns-in-Err-parse-clause-answers : goal.returns-in-Err-parse-clause-answers
returns-in-Err-parse-clause-answers c =
    syntax_answer Fixed c.args.text.now (BreaksRule c.args.typed.now c.args.machine.now.levels) Mapping c.in-Ok.tokens c.in-Err-parse.stop
    (lexed_by c.args.text.now c.in-Ok.tokens c.in-Ok.ensures.found c.in-Ok.ensures.fits c.in-Ok.ensures.refuses c.in-Ok.ensures.only)
    (rw c.as_slice.ensures at c.in-Err-parse.ensures.refused)

pub returns-in-Err-parse-clause-only : goal.returns-in-Err-parse-clause-only
returns-in-Err-parse-clause-only c = λ mapping s none.
    let answer =
    syntax_answer Fixed c.args.text.now (BreaksRule c.args.typed.now c.args.machine.now.levels) Mapping c.in-Ok.tokens c.in-Err-parse.stop
    (lexed_by c.args.text.now c.in-Ok.tokens c.in-Ok.ensures.found c.in-Ok.ensures.fits c.in-Ok.ensures.refuses c.in-Ok.ensures.only)
    (rw c.as_slice.ensures at c.in-Err-parse.ensures.refused) in
    refused_gives c.args.typed.now c.args.machine.now.levels c.args.text.now c.in-Err-parse.stop answer mapping none

pub returns-clause-answers : goal.returns-clause-answers
returns-clause-answers c =
    rules_answer Fixed c.args.text.now (BreaksRule c.args.typed.now c.args.machine.now.levels) c.in-Ok.tokens c.in-Ok-parse.written c.judged.result
    (lexed_by c.args.text.now c.in-Ok.tokens c.in-Ok.ensures.found c.in-Ok.ensures.fits c.in-Ok.ensures.refuses c.in-Ok.ensures.only)
    (rw c.as_slice.ensures at c.in-Ok-parse.ensures.found)
    (rw c.levels.ensures.items at (rw c.program.ensures.same at c.judged.ensures.answers))

pub returns-clause-found : goal.returns-clause-found
returns-clause-found c =
    let within = c.levels.ensures.within.few in
    rules_stand c.args.typed.now c.args.machine.now.levels c.args.text.now c.in-Ok.tokens c.in-Ok-parse.written c.judged.result (omega (arith, within))
    (lexed_by c.args.text.now c.in-Ok.tokens c.in-Ok.ensures.found c.in-Ok.ensures.fits c.in-Ok.ensures.refuses c.in-Ok.ensures.only)
    (rw c.as_slice.ensures at c.in-Ok-parse.ensures.found)
    (rw c.levels.ensures.items at (rw c.program.ensures.same at c.judged.ensures.answers))
    (rw c.levels.ensures.items at c.judged.ensures.found)

pub returns-clause-only : goal.returns-clause-only
returns-clause-only c =
    let within = c.levels.ensures.within.few in
    let lexed = lexed_by c.args.text.now c.in-Ok.tokens c.in-Ok.ensures.found c.in-Ok.ensures.fits c.in-Ok.ensures.refuses c.in-Ok.ensures.only in
    let read = rw c.as_slice.ensures at c.in-Ok-parse.ensures.found in
    let answers = rw c.levels.ensures.items at (rw c.program.ensures.same at c.judged.ensures.answers) in
    one_stands c.args.typed.now c.args.machine.now.levels c.args.text.now c.in-Ok.tokens c.in-Ok-parse.written c.judged.result lexed read
    (rules_answer Fixed c.args.text.now (BreaksRule c.args.typed.now c.args.machine.now.levels) c.in-Ok.tokens c.in-Ok-parse.written c.judged.result lexed read answers)
    (rules_stand c.args.typed.now c.args.machine.now.levels c.args.text.now c.in-Ok.tokens c.in-Ok-parse.written c.judged.result (omega (arith, within)) lexed read answers
    (rw c.levels.ensures.items at c.judged.ensures.found))

pub returns-clause-sound : goal.returns-clause-sound
returns-clause-sound c =
    let within = c.levels.ensures.within.few in
    rules_sound c.args.typed.now c.args.machine.now.levels c.args.text.now c.in-Ok.tokens c.in-Ok-parse.written c.judged.result (omega (arith, within))
    (lexed_by c.args.text.now c.in-Ok.tokens c.in-Ok.ensures.found c.in-Ok.ensures.fits c.in-Ok.ensures.refuses c.in-Ok.ensures.only)
    (rw c.as_slice.ensures at c.in-Ok-parse.ensures.found)
    (rw c.levels.ensures.items at (rw c.program.ensures.same at c.judged.ensures.answers))
    (rw c.levels.ensures.items at c.judged.ensures.found)

pub returns-in-Err-clause-given : goal.returns-in-Err-clause-given
returns-in-Err-clause-given c = λ m mapping w once resolves sound.
    none_lexed Fixed c.args.text.now c.in-Err.stop m mapping c.in-Err.ensures.only w

pub returns-in-Err-parse-clause-given : goal.returns-in-Err-parse-clause-given
returns-in-Err-parse-clause-given c = λ m mapping w once resolves sound.
    none_written Fixed c.args.text.now c.in-Ok.tokens c.in-Err-parse.stop
    (lexed_by c.args.text.now c.in-Ok.tokens c.in-Ok.ensures.found c.in-Ok.ensures.fits c.in-Ok.ensures.refuses c.in-Ok.ensures.only)
    (rw c.as_slice.ensures at c.in-Err-parse.ensures.refused) m mapping w

pub returns-clause-given : goal.returns-clause-given
returns-clause-given c =
    let within = c.levels.ensures.within.few in
    let lexed = lexed_by c.args.text.now c.in-Ok.tokens c.in-Ok.ensures.found c.in-Ok.ensures.fits c.in-Ok.ensures.refuses c.in-Ok.ensures.only in
    let read = rw c.as_slice.ensures at c.in-Ok-parse.ensures.found in
    let answers = rw c.levels.ensures.items at (rw c.program.ensures.same at c.judged.ensures.answers) in
    sound_given c.args.typed.now c.args.machine.now.levels c.args.text.now c.in-Ok.tokens c.in-Ok-parse.written c.judged.result lexed read answers
    (rules_stand c.args.typed.now c.args.machine.now.levels c.args.text.now c.in-Ok.tokens c.in-Ok-parse.written c.judged.result (omega (arith, within)) lexed read answers
    (rw c.levels.ensures.items at c.judged.ensures.found))
