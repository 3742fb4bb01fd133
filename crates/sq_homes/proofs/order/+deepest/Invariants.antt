use Rattle.std.proofs.Common.{length}
use Rattle.sq_homes.proofs.order.+deepest.Given as goal

abbrev pub decreases-deepest : goal.decreases-deepest
decreases-deepest l = length l.numbers.now
