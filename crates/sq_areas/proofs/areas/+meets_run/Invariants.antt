use Rattle.std.proofs.Common.{length}
use Rattle.sq_areas.proofs.Bytes.{NoRun}
use Rattle.sq_areas.proofs.areas.+meets_run.Given as goal

abbrev pub decreases-meets_run : goal.decreases-meets_run
decreases-meets_run l = length l.steps.now

abbrev pub invariant-loop-t : goal.invariant-loop-t
invariant-loop-t l = NoRun l.lo l.hi l.at l.run l.first l.rest l.initial.t l.t
