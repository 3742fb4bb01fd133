use Rattle.std.proofs.Common.{◌≤◌, ◌-◌}
use Rattle.sq_arrays.proofs.Passing.{Going}
use Rattle.sq_arrays.proofs.runs.pass_held.Given as goal

abbrev pub invariant-loop-n : goal.invariant-loop-n
invariant-loop-n g l = record {
  low : l.spot.start ≤ l.n;
  high : l.n ≤ l.spot.end;
  going : Going l.blank l.spot.place l.window.bytes l.spot.start l.n l.place;
}

abbrev pub decreases-loop-n : goal.decreases-loop-n
decreases-loop-n g l = l.spot.end - l.n
