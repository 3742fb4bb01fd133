use Rattle.sq_written_laws.proofs.Plans.{same_plan, runs_so}
use Rattle.sq_written_laws.proofs.laws.written_plans_are_the_same.Goals as goal

pub returns-clause-same : goal.returns-clause-same
returns-clause-same c f order formed = same_plan f order formed

pub returns-clause-runs : goal.returns-clause-runs
returns-clause-runs c f order formed = runs_so f order formed
