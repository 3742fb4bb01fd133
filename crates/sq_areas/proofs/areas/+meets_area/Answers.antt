use Rattle.std.proofs.Common.{rules}
use Rattle.sq_areas.proofs.Bytes.{shares_more, shares_none, end_is}
use Rattle.sq_areas.proofs.areas.+meets_area.Goals as goal

pub loop-t-preserved : goal.loop-t-preserved
loop-t-preserved t c =
    shares_more c.args.at c.args.run c.in-Some.first.now c.in-Some.rest.now c.args.other.now c.turns-turns.result.from c.loop-t.t c.turn.result c.loop-t.invariant c.turn.ensures (c.meets_area.ensures.none c.if-meets_area.false)

pub returns-clause-none : goal.returns-clause-none
returns-clause-none t c = λ e.
    let end = end_is c.reach_of.result c.args.other.now.at c.args.other.now.run _ c.args.other.now.steps c.reach_of.ensures (search rules) in
    shares_none c.args.at c.args.run c.args.steps.now c.args.other.now c.in-Some.first.now c.in-Some.rest.now c.reach_of-2.result _ c.turns-turns.result.from c.turns-turns.result.to c.loop-t.t (search rules) c.reach_of-2.ensures end c.turns-turns.ensures.all c.loop-t-test.false c.loop-t.invariant
