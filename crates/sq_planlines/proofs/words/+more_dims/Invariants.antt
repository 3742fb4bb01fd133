use Rattle.std.proofs.Common.{length}
use Rattle.sq_planlines.proofs.words.+more_dims.Given as goal

abbrev pub decreases-more_dims : goal.decreases-more_dims
decreases-more_dims l = length l.numbers.now
