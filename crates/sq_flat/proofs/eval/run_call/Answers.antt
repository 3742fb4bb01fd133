use Rattle.std.proofs.Common.{false}
use Rattle.sq_flat.proofs.eval.run_call.Goals as goal

pub returns : goal.returns
returns c = λ s shows. c.call.ensures false s shows
