use Rattle.sq_machfile.proofs.Whole.{lexed_by, syntax_answer, lexer_gives, syntax_gives, limits_answer, limits_found, limits_only}
use Rattle.sq_machfile.proofs.machine.read_machine.Goals as goal

pub returns-in-Err-parse-clause-answers : goal.returns-in-Err-parse-clause-answers
returns-in-Err-parse-clause-answers c =
    syntax_answer c.args.text.now c.in-Ok.tokens c.in-Err-parse.stop
    (lexed_by c.args.text.now c.in-Ok.tokens c.in-Ok.ensures.found c.in-Ok.ensures.fits c.in-Ok.ensures.refuses c.in-Ok.ensures.only)
    (rw c.as_slice.ensures at c.in-Err-parse.ensures.refused)

pub returns-in-Err-clause-only : goal.returns-in-Err-clause-only
returns-in-Err-clause-only c = λ machine s w. lexer_gives c.args.text.now c.in-Err.stop machine c.in-Err.ensures.only s

pub returns-in-Err-parse-clause-only : goal.returns-in-Err-parse-clause-only
returns-in-Err-parse-clause-only c = λ machine s w.
    syntax_gives c.args.text.now c.in-Ok.tokens c.in-Err-parse.stop machine
    (lexed_by c.args.text.now c.in-Ok.tokens c.in-Ok.ensures.found c.in-Ok.ensures.fits c.in-Ok.ensures.refuses c.in-Ok.ensures.only)
    (rw c.as_slice.ensures at c.in-Err-parse.ensures.refused) s

pub machine_of-requires : goal.machine_of-requires
machine_of-requires c = (c.in-Ok.tokens, rw c.as_slice.ensures at c.in-Ok-parse.ensures.found)

pub returns-clause-answers : goal.returns-clause-answers
returns-clause-answers c =
    limits_answer c.args.text.now c.in-Ok.tokens c.in-Ok-parse.written
    (lexed_by c.args.text.now c.in-Ok.tokens c.in-Ok.ensures.found c.in-Ok.ensures.fits c.in-Ok.ensures.refuses c.in-Ok.ensures.only)
    (rw c.as_slice.ensures at c.in-Ok-parse.ensures.found) c.machine_of.result c.machine_of.ensures

pub returns-clause-found : goal.returns-clause-found
returns-clause-found c =
    limits_found c.args.text.now c.in-Ok.tokens c.in-Ok-parse.written
    (lexed_by c.args.text.now c.in-Ok.tokens c.in-Ok.ensures.found c.in-Ok.ensures.fits c.in-Ok.ensures.refuses c.in-Ok.ensures.only)
    (rw c.as_slice.ensures at c.in-Ok-parse.ensures.found) c.machine_of.result c.machine_of.ensures

pub returns-clause-only : goal.returns-clause-only
returns-clause-only c =
    limits_only c.args.text.now c.in-Ok.tokens c.in-Ok-parse.written
    (lexed_by c.args.text.now c.in-Ok.tokens c.in-Ok.ensures.found c.in-Ok.ensures.fits c.in-Ok.ensures.refuses c.in-Ok.ensures.only)
    (rw c.as_slice.ensures at c.in-Ok-parse.ensures.found) c.machine_of.result c.machine_of.ensures
