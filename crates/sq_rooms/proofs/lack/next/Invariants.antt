use Rattle.std.proofs.Common.{◌≡◌, None, drop}
use Rattle.sq_rooms.specs.Lacks.{next}
use Rattle.sq_rooms.proofs.lack.next.Given as goal

abbrev pub invariant-loop-name : goal.invariant-loop-name
invariant-loop-name l = next l.from l.best (drop l.name-index l.names) ≡ next l.from None l.names
