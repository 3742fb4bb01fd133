use Rattle.sq_driver.proofs.Evaluations.{evaluates_same}
use Rattle.sq_driver.proofs.Finals.{causes_after}
use Rattle.sq_driver.proofs.Planning.{stops_named, sources_end}
use Rattle.sq_driver.proofs.phases.planning.on_plan.Goals as goal

pub returns-in-Err-clause-evaluated : goal.returns-in-Err-clause-evaluated
returns-in-Err-clause-evaluated g c = sources_end _ _ c.names.ensures.on _ _ _ c.in-Err.end
    (stops_named _ _ _ c.in-Err.end c.names.ensures.names c.in-Err.ensures.stopped)

pub returns-in-Err-resolved-clause-evaluated : goal.returns-in-Err-resolved-clause-evaluated
returns-in-Err-resolved-clause-evaluated g c = sources_end _ _ c.names.ensures.on _ _ _ c.in-Err-resolved.end
    (stops_named _ _ _ c.in-Err-resolved.end c.names.ensures.names
    (c.in-Err-resolved.ensures.stopped _ _ _ _ c.in-Ok.ensures.held))

pub returns-clause-evaluated : goal.returns-clause-evaluated
returns-clause-evaluated g c =
    evaluates_same _ _ _ _ _ _ _ c.on_resolved.result c.in-Ok.ensures.content c.on_resolved.ensures.evaluated

pub returns-in-Err-resolved-clause-cause : goal.returns-in-Err-resolved-clause-cause
returns-in-Err-resolved-clause-cause g c =
    causes_after _ _ _ _ _ _ _ c.in-Ok.ensures.cause (c.in-Err-resolved.ensures.cause _ _)

pub returns-clause-cause : goal.returns-clause-cause
returns-clause-cause g c = causes_after _ _ _ _ _ _ _ c.in-Ok.ensures.cause c.on_resolved.ensures.cause
