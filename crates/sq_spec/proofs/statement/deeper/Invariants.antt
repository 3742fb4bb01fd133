use Rattle.std.proofs.Common.{◌≡◌, ◌++◌, drop}
use Rattle.sq_spec.proofs.statement.deeper.Given as goal

abbrev pub invariant-loop-outer : goal.invariant-loop-outer
invariant-loop-outer l = l.maps ++ drop l.outer-index l.nest ≡ l.nest
