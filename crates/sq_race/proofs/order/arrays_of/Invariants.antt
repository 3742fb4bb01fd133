use Rattle.sq_race.specs.Pairs as pairs
use Rattle.sq_race.proofs.order.arrays_of.Given as goal

abbrev pub invariant-loop-number : goal.invariant-loop-number
invariant-loop-number l = pairs.AreWithinTo l.count l.number l.uses
