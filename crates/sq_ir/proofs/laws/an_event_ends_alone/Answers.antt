use Rattle.sq_ir.proofs.RunSteps.{finishes_one, traps_one}
use Rattle.sq_ir.proofs.laws.an_event_ends_alone.Goals as goal

pub returns-clause-finishes : goal.returns-clause-finishes
returns-clause-finishes g c = finishes_one _ _

pub returns-clause-traps : goal.returns-clause-traps
returns-clause-traps g c = traps_one _ _
