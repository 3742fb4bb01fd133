use Rattle.std.proofs.Common.{◌≡◌, drop}
use Rattle.sq_driver.specs.Picking.{number_from}
use Rattle.sq_driver.proofs.phases.entry.number_of.Given as goal

abbrev pub invariant-loop-i : goal.invariant-loop-i
invariant-loop-i l = number_from l.i (drop l.i l.params) l.left ≡ number_from 0 l.params l.array
