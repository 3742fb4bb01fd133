use Rattle.std.proofs.Common.{length}
use Rattle.sq_planevents.specs.Twice.{NoMeet}
use Rattle.sq_planevents.proofs.twice.+meets.Given as goal

abbrev pub decreases-meets : goal.decreases-meets
decreases-meets l = length l.steps.now

abbrev pub invariant-loop-k : goal.invariant-loop-k
invariant-loop-k l = NoMeet l.first l.rest l.x l.y l.k
