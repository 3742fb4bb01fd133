use Rattle.std.proofs.Common.{arith, sym}
use Rattle.sq_arrays.proofs.Passing.{going_more, going_done, stops_end, stops_here}
use Rattle.sq_arrays.proofs.runs.pass_held.Goals as goal
use Rattle.sq_arrays.proofs.runs.pass_held.Goals.{then-loop-n-test+else-is_of, else-loop-n-test}

pub loop-n-preserved : goal.loop-n-preserved
loop-n-preserved g c = record {
  low = omega arith;
  high = omega arith;
  going = rw c.after-place.ensures (going_more _ _ _ _ _ _ c.loop-n.invariant.low (omega arith) c.loop-n.invariant.going (sym c.if-is_of.ensures));
}

pub returns-clause-passed : goal.returns-clause-passed
returns-clause-passed g c = going_done g.J.Observer.step c.args.blank _ _ c.args.window.now.bytes c.args.window.now.spot.start c.loop-n.n c.args.window.now.spot.end _ _ c.loop-n.invariant.low c.loop-n.invariant.high c.loop-n.invariant.going c.observe.ensures

pub returns-clause-stops : goal.returns-clause-stops
returns-clause-stops g c = elim c.loop-n-test.branch [
  | then-loop-n-test+else-is_of w ↦ stops_here c.args.blank c.args.window.now.bytes c.loop-n.n c.args.window.now.spot.end w.loop-n-test.true (omega arith) (sym w.if-is_of.ensures)
  | else-loop-n-test w ↦ stops_end c.args.blank c.args.window.now.bytes c.loop-n.n c.args.window.now.spot.end w.loop-n-test.false
]
