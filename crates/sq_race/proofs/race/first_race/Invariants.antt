use Rattle.sq_race.specs.Race as spec
use Rattle.sq_race.proofs.race.first_race.Given as goal

abbrev pub invariant-loop-number : goal.invariant-loop-number
invariant-loop-number l = spec.NoneOfForms l.r l.number
