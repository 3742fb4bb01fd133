use Rattle.std.proofs.Common.{arith, ◌∙◌, ap, min, ◌*◌}
use Rattle.sq_forms.proofs.Products.{times_more, times_done}
use Rattle.sq_forms.proofs.ranges.times.Goals as goal

pub loop-i-preserved : goal.loop-i-preserved
loop-i-preserved c = record {
  small = omega arith;
  so_far = times_more 18446744073709551615 c.loop-i.times c.saturating_mul-times.result c.loop-i.i _ c.args.bounds.now c.loop-i-test.true c.loop-i.invariant.so_far
      (c.saturating_mul-times.ensures ∙ ap (λ n. min (c.loop-i.times * n) 18446744073709551615) c.count_at.ensures);
}

pub returns : goal.returns
returns c = times_done 18446744073709551615 c.loop-i.times c.loop-i.i _ c.args.bounds.now c.loop-i-test.false c.loop-i.invariant.small c.loop-i.invariant.so_far
