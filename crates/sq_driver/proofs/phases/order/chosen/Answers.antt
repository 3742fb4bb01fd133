use Rattle.sq_driver.proofs.OrderPhase.{first_read, last_read, seed_read, list_read, list_ends}
use Rattle.sq_driver.proofs.phases.order.chosen.Goals as goal

pub returns-in-First-clause-chosen : goal.returns-in-First-clause-chosen
returns-in-First-clause-chosen g c = first_read c.args.way c.in-First.is _ c.first.result c.first.ensures

pub returns-in-Last-clause-chosen : goal.returns-in-Last-clause-chosen
returns-in-Last-clause-chosen g c = last_read c.args.way c.in-Last.is _ c.last.result c.last.ensures

pub returns-in-Seed-clause-chosen : goal.returns-in-Seed-clause-chosen
returns-in-Seed-clause-chosen g c = seed_read c.args.way c.in-Seed.seed c.in-Seed.is _ c.seeded.result c.seeded.ensures

pub returns-in-Ok-clause-chosen : goal.returns-in-Ok-clause-chosen
returns-in-Ok-clause-chosen g c = list_read c.args.way c.in-List.name c.in-List.is _ c.in-Ok.picks
    c.in-Ok.ensures.told c.listed.result c.listed.ensures

pub returns-in-Err-clause-chosen : goal.returns-in-Err-clause-chosen
returns-in-Err-clause-chosen g c = list_ends c.args.way c.in-List.name c.in-List.is _ c.in-Err.end c.in-Err.ensures.told
