use Rattle.sq_race.specs.Least as spec
use Rattle.sq_race.proofs.plain.least_pair.Given as goal

abbrev pub invariant-loop-later : goal.invariant-loop-later
invariant-loop-later l = spec.IsLeastTo l.map l.uses l.later l.known
