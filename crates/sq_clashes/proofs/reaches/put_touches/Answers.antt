use Rattle.sq_plan_check.proofs.Sweeping.{item_at}
use Rattle.sq_clashes.proofs.Covering.{more_both, touches_more, touches_all, near_at}
use Rattle.sq_clashes.proofs.reaches.put_touches.Goals as goal

pub put_touch-requires : goal.put_touch-requires
put_touch-requires c =
    near_at c.args.touches.now c.loop-touch.touch-index c.touch-item.result c.requires (item_at c.args.touches.now c.loop-touch.touch-index c.touch-item.result c.loop-touch-test.true c.touch-item.is)

pub loop-touch-preserved : goal.loop-touch-preserved
loop-touch-preserved c =
    let at = item_at c.args.touches.now c.loop-touch.touch-index c.touch-item.result c.loop-touch-test.true c.touch-item.is in
    record {
      more = more_both c.args.reaches.now c.loop-touch.reaches c.put_touch.new.reaches c.loop-touch.invariant.more c.in_ok-put_touch.ensures.more;
      touches = touches_more c.loop-touch.reaches c.put_touch.new.reaches c.args.touches.now c.args.own c.loop-touch.touch-index c.touch-item.result c.loop-touch.invariant.touches c.in_ok-put_touch.ensures.more at c.in_ok-put_touch.ensures.reached;
    }

pub returns-clause-reached : goal.returns-clause-reached
returns-clause-reached c = touches_all c.loop-touch.reaches c.args.touches.now c.args.own c.loop-touch.touch-index c.loop-touch.invariant.touches c.loop-touch-test.false
