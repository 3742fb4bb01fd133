use Rattle.std.proofs.Common.{◌≡◌, ◌+◌, drop}
use Rattle.sq_homes.specs.Numbering.{position}
use Rattle.sq_homes.proofs.homes.position.Given as goal

abbrev pub invariant-loop-k : goal.invariant-loop-k
invariant-loop-k l = record { same : l.k + position l.i (drop l.k l.list) ≡ position l.fn.i l.fn.list }
