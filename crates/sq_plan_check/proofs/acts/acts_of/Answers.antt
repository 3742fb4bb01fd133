use Rattle.std.proofs.Common.{arith}
use Rattle.sq_plan_check.proofs.Acted.{acts_none, acts_more, acts_all}
use Rattle.sq_plan_check.proofs.Sweeping.{item_at}
use Rattle.sq_plan_check.proofs.acts.acts_of.Goals as goal

pub loop-entry-init : goal.loop-entry-init
loop-entry-init c = acts_none c.args.plan.now c.args.entries.now c.new-acts.result c.new-acts.ensures

pub act_in-requires : goal.act_in-requires
act_in-requires c = c.requires.views c.loop-entry.entry-index c.entry-item.result (item_at c.args.entries.now c.loop-entry.entry-index c.entry-item.result c.loop-entry-test.true c.entry-item.is)

pub loop-entry-preserved : goal.loop-entry-preserved
loop-entry-preserved c =
    acts_more c.args.plan.now c.args.entries.now c.loop-entry.entry-index c.loop-entry.acts c.push.new.self c.in_ok-act.act c.entry-item.result c.loop-entry.invariant (item_at c.args.entries.now c.loop-entry.entry-index c.entry-item.result c.loop-entry-test.true c.entry-item.is) c.in_ok-push.ensures.ok c.in_ok-act.ensures.shows c.in_ok-act.ensures.near

pub returns : goal.returns
returns c = acts_all c.args.plan.now c.args.entries.now c.loop-entry.entry-index c.loop-entry.acts c.loop-entry.invariant (omega (arith, c.loop-entry-test.false, c.loop-entry.auto.entry-index-end))
