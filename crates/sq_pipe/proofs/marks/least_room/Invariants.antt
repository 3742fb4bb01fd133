use Rattle.std.proofs.Common.{◌≡◌, drop}
use Rattle.sq_pipe.specs.Runs as spec
use Rattle.sq_pipe.proofs.marks.least_room.Given as goal

abbrev pub invariant-loop-n : goal.invariant-loop-n
invariant-loop-n l =
    spec.least_room l.marks l.n (drop l.n l.nodes) l.most ≡ spec.least_room l.marks 0 l.nodes l.fn.most
