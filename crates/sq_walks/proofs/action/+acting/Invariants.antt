use Rattle.std.proofs.Common.{◌≡◌, drop, map}
use Rattle.sq_sched.specs.Acts.{acts, any}
use Rattle.sq_walks.proofs.action.+acting.Given as goal

abbrev pub invariant-any_acts-loop-term : goal.invariant-any_acts-loop-term
invariant-any_acts-loop-term l = any (map acts (drop l.term-index l.terms)) ≡ any (map acts l.terms)
