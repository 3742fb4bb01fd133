use Rattle.std.proofs.Common.{◌≡◌, drop}
use Rattle.sq_pipe.specs.Candidates as spec
use Rattle.sq_pipe.proofs.ahead.are_clear_of.Given as goal

abbrev pub invariant-loop-i : goal.invariant-loop-i
invariant-loop-i l = spec.are_clear_of l.leaves l.i (drop l.i l.written) l.list ≡ spec.are_clear_of l.leaves 0 l.written l.list
