use Rattle.std.proofs.Common.{length}
use Rattle.sq_draft.proofs.parts.+push_clears.Given as goal

abbrev pub decreases-push_clears : goal.decreases-push_clears
decreases-push_clears l = length l.shapes.now
