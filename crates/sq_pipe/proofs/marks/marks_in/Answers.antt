use Rattle.std.proofs.Common.{rules, ◌∙◌}
use Rattle.sq_pipe.proofs.Marked.{known_none, known_some}
use Rattle.sq_pipe.proofs.marks.marks_in.Goals as goal

pub returns-in-None : goal.returns-in-None
returns-in-None c = known_none c.args.known.now c.args.form (search rules)

pub returns-in-Some : goal.returns-in-Some
returns-in-Some c =
    c.as_slice.ensures ∙ known_some c.args.known.now c.args.form c.in-Some.marks.now (search rules)
