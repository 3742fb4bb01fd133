use Rattle.std.proofs.Common.{◌≡◌, drop}
use Rattle.sq_planevents.specs.Standing.{has}
use Rattle.sq_planevents.proofs.scopes.has.Given as goal

abbrev pub invariant-loop-other : goal.invariant-loop-other
invariant-loop-other l = has (drop l.other-index l.numbers) l.number ≡ has l.numbers l.number
