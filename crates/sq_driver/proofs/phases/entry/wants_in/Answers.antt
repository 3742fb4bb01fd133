use Rattle.sq_driver.proofs.Wants.{wants_step}
use Rattle.sq_driver.proofs.phases.entry.wants_in.Goals as goal

pub loop-i-preserved : goal.loop-i-preserved
loop-i-preserved c =
    wants_step c.args.params.now c.args.extents.now _ _ c.loop-i.i c.index-params-i.result c.index-extents-i.result
    c.loop-i-test.true c.requires c.index-params-i.is c.index-extents-i.is c.in_ok-push_want.ensures
    c.loop-i.invariant
