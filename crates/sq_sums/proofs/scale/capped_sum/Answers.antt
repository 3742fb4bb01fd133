use Rattle.std.proofs.Common.{◌+◌, ◌∙◌}
use Rattle.sq_sums.proofs.Words64.{capped_is}
use Rattle.sq_sums.proofs.scale.capped_sum.Goals as goal

pub returns : goal.returns
returns c = c.saturating_add.ensures ∙ capped_is (c.args.a + c.args.b)
