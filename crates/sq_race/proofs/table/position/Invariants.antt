use Rattle.std.proofs.Common.{◌≡◌, drop}
use Rattle.sq_race.specs.Table as spec
use Rattle.sq_race.proofs.table.position.Given as goal

abbrev pub invariant-loop-i : goal.invariant-loop-i
invariant-loop-i l = spec.position_from l.name (drop l.i l.args) l.i ≡ spec.position_from l.name l.args 0
