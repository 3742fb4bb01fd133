use Rattle.std.proofs.Common.{◌≡◌, drop}
use Rattle.sq_pipe.specs.Candidates as spec
use Rattle.sq_pipe.proofs.ahead.are_ahead.Given as goal

abbrev pub invariant-loop-t : goal.invariant-loop-t
invariant-loop-t l = spec.are_ahead l.leaves (drop l.t l.rows) ≡ spec.are_ahead l.leaves l.rows
