use Rattle.sq_plan_check.specs.Acted.{AreActsTo}
use Rattle.sq_plan_check.proofs.acts.acts_of.Given as goal

abbrev pub invariant-loop-entry : goal.invariant-loop-entry
invariant-loop-entry l = AreActsTo l.plan l.entries l.entry-index l.acts
