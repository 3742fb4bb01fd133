use Rattle.std.proofs.Common.{◌≡◌, drop}
use Rattle.sq_planfile.specs.Written.{has}
use Rattle.sq_planfile.proofs.heads.has.Given as goal

abbrev pub invariant-loop-other : goal.invariant-loop-other
invariant-loop-other l = has (drop l.other-index l.names) l.name ≡ has l.names l.name
