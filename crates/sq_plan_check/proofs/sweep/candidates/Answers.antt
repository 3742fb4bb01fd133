use Rattle.std.proofs.Common.{arith}
use Rattle.sq_plan_check.proofs.Sweeping.{swept_more, swept_all, item_at}
use Rattle.sq_plan_check.proofs.sweep.candidates.Goals as goal

pub loop-row-preserved : goal.loop-row-preserved
loop-row-preserved c =
    rw (c.in_ok-push.ensures.items) (swept_more c.args.rows.now c.loop-row.row-index c.loop-row.tops c.raise.new.tops c.loop-row.found.items c.row-item.result c.meets.result c.loop-row.invariant (item_at c.args.rows.now c.loop-row.row-index c.row-item.result c.loop-row-test.true c.row-item.is) c.meets.ensures c.raise.ensures)

pub returns : goal.returns
returns c =
    swept_all c.args.rows.now c.loop-row.row-index c.loop-row.tops c.loop-row.found.items c.loop-row.invariant (omega (arith, c.loop-row-test.false, c.loop-row.auto.row-index-end))
