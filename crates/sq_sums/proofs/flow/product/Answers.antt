use Rattle.std.proofs.Common.{◌*◌, ◌∙◌}
use Rattle.sq_sums.proofs.Words64.{capped_is}
use Rattle.sq_sums.proofs.flow.product.Goals as goal

pub returns : goal.returns
returns c = c.saturating_mul.ensures ∙ capped_is (c.args.a * c.args.b)
