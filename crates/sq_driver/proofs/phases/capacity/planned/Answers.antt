use Rattle.sq_driver.proofs.phases.capacity.planned.Goals as goal

pub returns-in-Ok-clause-its : goal.returns-in-Ok-clause-its
returns-in-Ok-clause-its c = c.in-Ok.ensures.good (c.without_a_race.ensures c.args.resolved.now c.requires)
