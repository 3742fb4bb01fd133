use Rattle.std.proofs.Common.{length}
use Rattle.sq_flat.proofs.ready.+have_lengths.Given as goal

abbrev pub decreases-have_lengths : goal.decreases-have_lengths
decreases-have_lengths l = length l.spans.now
