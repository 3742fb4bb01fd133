use Rattle.std.proofs.Common.{◌≡◌, drop}
use Rattle.sq_pipe.specs.Candidates as spec
use Rattle.sq_pipe.proofs.ahead.is_clear_of.Given as goal

abbrev pub invariant-loop-j : goal.invariant-loop-j
invariant-loop-j l = spec.is_clear_of l.leaves l.x l.j (drop l.j l.list) ≡ spec.is_clear_of l.leaves l.x 0 l.list
