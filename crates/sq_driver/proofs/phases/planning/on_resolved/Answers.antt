use Rattle.std.proofs.Common.{refl}
use Rattle.sq_driver.proofs.Planning.{capacity_end, plan_held}
use Rattle.sq_driver.proofs.phases.planning.on_resolved.Goals as goal

pub work-requires : goal.work-requires
work-requires g c κs = (
  (refl, tt),
  plan_held _ _ c.requires.on _ c.args.resolved.now c.requires.forms c.requires.holds c.requires.free
      c.lacks_are_one.ensures.lacks c.in-Ok.ensures.fits c.in-Ok.plan c.in-Ok.ensures.its,
)

pub returns-in-Err-clause-evaluated : goal.returns-in-Err-clause-evaluated
returns-in-Err-clause-evaluated g c = capacity_end _ _ c.requires.on _ _ _ c.args.resolved.now c.requires.forms
    c.requires.holds c.requires.free c.in-Err.end c.in-Err.ensures.refused
