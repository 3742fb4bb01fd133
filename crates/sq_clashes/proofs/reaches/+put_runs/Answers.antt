use Rattle.sq_clashes.proofs.Covering.{runs_spanned}
use Rattle.sq_clashes.proofs.reaches.+put_runs.Goals as goal

pub returns-then-first-most-clause-reached : goal.returns-then-first-most-clause-reached
returns-then-first-most-clause-reached t c =
    runs_spanned c.put_range-then-first-most.new.reaches c.args.key c.args.run c.span_of.result c.args.steps.now c.args.color c.span_of.ensures.is c.in_ok-put_range-2.ensures.reached
