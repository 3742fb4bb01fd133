use Rattle.std.proofs.Common.{arith}
use Rattle.sq_race.proofs.Steps.{within_more, within_all}
use Rattle.sq_race.proofs.order.arrays_of.Goals as goal

pub loop-number-preserved : goal.loop-number-preserved
loop-number-preserved c =
    within_more c.loop-number.count c.larger-count.result c.loop-number.number c.args.uses.now c.nth-access.result.now c.loop-number.invariant c.nth-access.ensures (omega (arith, c.larger-count.ensures.left)) (omega (arith, c.larger-count.ensures.right))

pub returns : goal.returns
returns c = within_all _ _ _ c.loop-number.invariant (omega arith)
