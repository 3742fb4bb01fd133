use Rattle.sq_clashes.specs.Reached.{HaveMore}
use Rattle.sq_clashes.proofs.Covering.{TouchesReached}
use Rattle.sq_clashes.proofs.reaches.put_touches.Given as goal

abbrev pub invariant-loop-touch : goal.invariant-loop-touch
invariant-loop-touch l = record {
  more : HaveMore l.fn.reaches l.reaches;
  touches : TouchesReached l.reaches l.touches l.own l.touch-index;
}
