use Rattle.std.proofs.Common.{length}
use Rattle.sq_contexts.proofs.entry.+push_views.Given as goal

abbrev pub decreases-push_views : goal.decreases-push_views
decreases-push_views l = length l.homes.now
