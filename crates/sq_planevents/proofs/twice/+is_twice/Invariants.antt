use Rattle.std.proofs.Common.{length}
use Rattle.sq_planevents.specs.Twice.{NoTwin}
use Rattle.sq_planevents.proofs.twice.+is_twice.Given as goal

abbrev pub decreases-is_twice : goal.decreases-is_twice
decreases-is_twice l = length l.steps.now

abbrev pub invariant-loop-k : goal.invariant-loop-k
invariant-loop-k l = NoTwin l.first l.rest l.k
