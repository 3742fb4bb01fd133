use Rattle.std.proofs.Common.{◌≡◌, map, drop}
use Rattle.sq_spec.proofs.spreads.+lower.Given as goal
use Rattle.sq_spec.specs.Spreads.{any_of, lower_in}

abbrev pub invariant-any_lower-loop-x : goal.invariant-any_lower-loop-x
invariant-any_lower-loop-x l = any_of (map lower_in (drop l.x-index l.list)) ≡ any_of (map lower_in l.list)
