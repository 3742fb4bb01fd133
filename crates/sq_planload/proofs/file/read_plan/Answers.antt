use Rattle.sq_planload.proofs.Whole.{lexed_by, tokens_answer, tokens_found, tokens_give}
use Rattle.sq_planload.proofs.file.read_plan.Goals as goal

pub returns-clause-answers : goal.returns-clause-answers
returns-clause-answers c =
    tokens_answer c.args.text.now c.in-Ok.list
    (lexed_by c.args.text.now c.in-Ok.list c.in-Ok.ensures.found c.in-Ok.ensures.fits c.in-Ok.ensures.refuses c.in-Ok.ensures.only)
    c.of_tokens.result c.of_tokens.ensures

pub returns-clause-found : goal.returns-clause-found
returns-clause-found c =
    tokens_found c.args.text.now c.in-Ok.list
    (lexed_by c.args.text.now c.in-Ok.list c.in-Ok.ensures.found c.in-Ok.ensures.fits c.in-Ok.ensures.refuses c.in-Ok.ensures.only)
    c.of_tokens.result c.of_tokens.ensures

pub returns-clause-only : goal.returns-clause-only
returns-clause-only c =
    tokens_give c.args.text.now c.in-Ok.list
    (lexed_by c.args.text.now c.in-Ok.list c.in-Ok.ensures.found c.in-Ok.ensures.fits c.in-Ok.ensures.refuses c.in-Ok.ensures.only)
    c.of_tokens.result c.of_tokens.ensures
