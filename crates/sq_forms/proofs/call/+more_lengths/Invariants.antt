use Rattle.std.proofs.Common.{length}
use Rattle.sq_forms.proofs.call.+more_lengths.Given as goal

abbrev pub decreases-more_lengths : goal.decreases-more_lengths
decreases-more_lengths l = length l.spans.now
