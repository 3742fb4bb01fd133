use Rattle.std.proofs.Common.{length}
use Rattle.sq_clashes.specs.Reached.{HaveMore}
use Rattle.sq_clashes.proofs.Covering.{TurnsReached}
use Rattle.sq_clashes.proofs.reaches.+put_runs.Given as goal

abbrev pub decreases-put_runs : goal.decreases-put_runs
decreases-put_runs l = length l.steps.now

abbrev pub invariant-loop-t : goal.invariant-loop-t
invariant-loop-t l = record {
  more : HaveMore l.fn.reaches l.reaches;
  turns : TurnsReached l.reaches l.key l.run l.first l.rest l.color l.t;
}
