use Rattle.std.proofs.Common.{length}
use Rattle.sq_turns.proofs.block.+is_clear_of_each.Given as goal

abbrev pub decreases-is_clear_of_each : goal.decreases-is_clear_of_each
decreases-is_clear_of_each l = length l.writes.now
