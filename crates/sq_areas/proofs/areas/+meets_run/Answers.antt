use Rattle.std.proofs.Common.{rules}
use Rattle.sq_areas.proofs.Bytes.{runs_more, runs_none}
use Rattle.sq_areas.proofs.areas.+meets_run.Goals as goal

pub loop-t-preserved : goal.loop-t-preserved
loop-t-preserved t c =
    runs_more c.args.lo c.args.hi c.args.at c.args.run c.in-Some.first.now c.in-Some.rest.now c.turns-turns.result.from c.loop-t.t c.turn.result c.loop-t.invariant c.turn.ensures (c.meets_run.ensures.none c.if-meets_run.false)

pub returns-clause-none : goal.returns-clause-none
returns-clause-none t c = λ e.
    runs_none c.args.lo c.args.hi c.args.at c.args.run c.args.steps.now c.in-Some.first.now c.in-Some.rest.now c.reach_of.result c.turns-turns.result.from c.turns-turns.result.to c.loop-t.t (search rules) c.reach_of.ensures c.turns-turns.ensures.all c.loop-t-test.false c.loop-t.invariant
