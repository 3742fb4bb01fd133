use Rattle.std.proofs.Common.{length}
use Rattle.sq_flat.proofs.flat.+push_reversed.Given as goal

abbrev pub decreases-push_reversed : goal.decreases-push_reversed
decreases-push_reversed l = length l.turns.now
