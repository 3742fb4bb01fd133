use Rattle.std.proofs.Common.{length}
use Rattle.sq_turns.proofs.plan.+push_past.Given as goal

abbrev pub decreases-push_past : goal.decreases-push_past
decreases-push_past l = length l.writes.now
