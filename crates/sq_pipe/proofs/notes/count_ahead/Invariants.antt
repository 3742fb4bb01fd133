use Rattle.std.proofs.Common.{◌≡◌, ◌+◌, drop}
use Rattle.sq_pipe.specs.Notes as spec
use Rattle.sq_pipe.proofs.notes.count_ahead.Given as goal

abbrev pub invariant-loop-n : goal.invariant-loop-n
invariant-loop-n l = l.n + spec.count_ahead l.caller l.place (drop l.n l.list)
    ≡ spec.count_ahead l.caller l.place l.list
