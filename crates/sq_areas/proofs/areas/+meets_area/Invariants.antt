use Rattle.std.proofs.Common.{length}
use Rattle.sq_areas.proofs.Bytes.{NoShare}
use Rattle.sq_areas.proofs.areas.+meets_area.Given as goal

abbrev pub decreases-meets_area : goal.decreases-meets_area
decreases-meets_area l = length l.steps.now

abbrev pub invariant-loop-t : goal.invariant-loop-t
invariant-loop-t l = NoShare l.at l.run l.first l.rest l.other l.initial.t l.t
