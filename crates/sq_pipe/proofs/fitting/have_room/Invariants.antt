use Rattle.std.proofs.Common.{◌≡◌, [], drop, length}
use Rattle.sq_pipe.specs.Greedy as spec
use Rattle.sq_pipe.specs.Sums.{ended_by}
use Rattle.sq_pipe.proofs.fitting.have_room.Given as goal

abbrev pub invariant-loop-k : goal.invariant-loop-k
invariant-loop-k l = record {
  same : spec.have_room l.taken l.k (drop l.k l.forms) l.rest (ended_by l.forms l.ends)
      ≡ spec.have_room l.fn.taken 0 l.fn.forms l.fn.rooms [];
  long : length l.ends ≡ l.k;
}
