use Rattle.std.proofs.Common.{length}
use Rattle.sq_touches.proofs.put.+put_views.Given as goal

abbrev pub decreases-put_views : goal.decreases-put_views
decreases-put_views l = length l.views.now
