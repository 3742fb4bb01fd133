use Rattle.std.proofs.Common.{◌≡◌, drop}
use Rattle.sq_pipe.specs.Runs as spec
use Rattle.sq_pipe.proofs.marks.most_children.Given as goal

abbrev pub invariant-loop-n : goal.invariant-loop-n
invariant-loop-n l =
    spec.most_children l.marks l.n (drop l.n l.nodes) l.least ≡ spec.most_children l.marks 0 l.nodes 0
