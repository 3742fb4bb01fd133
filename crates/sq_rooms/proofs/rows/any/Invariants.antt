use Rattle.std.proofs.Common.{◌≡◌, drop}
use Rattle.sq_rooms.specs.Reaches as spec
use Rattle.sq_rooms.proofs.rows.any.Given as goal

abbrev pub invariant-loop-mark : goal.invariant-loop-mark
invariant-loop-mark l = spec.any (drop l.mark-index l.marks) ≡ spec.any l.marks
