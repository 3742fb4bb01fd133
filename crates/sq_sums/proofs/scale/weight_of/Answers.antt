use Rattle.sq_sums.proofs.Weighing.{weighed_more, weighed_all}
use Rattle.std.proofs.Common.{refl}
use Rattle.sq_sums.proofs.scale.weight_of.Goals as goal

-- src/sums.rt:127:5
pub loop-i-preserved : goal.loop-i-preserved
loop-i-preserved c = (
  c.saturating_add-sum.type_inv,
  weighed_more c.args.scale.now.buffers.now c.args.scale.now.once c.args.named.now
      c.loop-i.i c.loop-i.sum c.saturating_add-sum.result c.weight_at.result _ c.loop-i-test.true refl
      c.weight_at.ensures
      c.saturating_add-sum.ensures c.loop-i.invariant.1,
)

-- src/sums.rt:122:1
pub returns : goal.returns
returns c = weighed_all c.args.scale.now.buffers.now c.args.scale.now.once c.args.named.now c.loop-i.i c.loop-i.sum
    c.loop-i-test.false c.loop-i.invariant.0 c.loop-i.invariant.1
