use Rattle.std.proofs.Common.{◌≡◌, map, drop}
use Rattle.sq_spec.proofs.spreads.+same.Given as goal
use Rattle.sq_spec.specs.Spreads.{any_of, same_in}

abbrev pub invariant-any_same-loop-x : goal.invariant-any_same-loop-x
invariant-any_same-loop-x l = any_of (map same_in (drop l.x-index l.list)) ≡ any_of (map same_in l.list)
