use Rattle.std.proofs.Common.{length}
use Rattle.sq_contexts.proofs.places.+push_local_buffers.Given as goal

abbrev pub decreases-push_local_buffers : goal.decreases-push_local_buffers
decreases-push_local_buffers l = length l.shapes.now
