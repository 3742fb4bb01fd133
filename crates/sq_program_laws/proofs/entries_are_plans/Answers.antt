use Rattle.sq_program_laws.proofs.Plans.{entries_are_plans}
use Rattle.sq_program_laws.proofs.entries_are_plans.Goals as goal

pub returns : goal.returns
returns c = entries_are_plans
