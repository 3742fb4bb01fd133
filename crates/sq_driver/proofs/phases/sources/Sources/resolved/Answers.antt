use Rattle.sq_driver.proofs.SourcePhases.{stops_at_resolve, stops_at_race}
use Rattle.sq_driver.proofs.phases.sources.Sources.resolved.Goals as goal

pub returns-in-Err-clause-stopped : goal.returns-in-Err-clause-stopped
returns-in-Err-clause-stopped c = λ told p m k held.
    stops_at_resolve p m k told c.args.self.now.typed c.args.self.now.machine c.args.self.now.mapping held c.in-Err.end
    c.in-Err.ensures.refused

pub returns-clause-resolved : goal.returns-clause-resolved
returns-clause-resolved c = record {
  tree_is = c.in-Ok.ensures.program;
  machine_is = c.in-Ok.ensures.machine;
  mapping_is = c.in-Ok.ensures.mapping;
  forms = c.in-Ok.ensures.forms;
  found = c.in-Ok.ensures.found;
}

pub returns-in-Err-refuse_race-clause-stopped : goal.returns-in-Err-refuse_race-clause-stopped
returns-in-Err-refuse_race-clause-stopped c = λ told p m k held.
    stops_at_race p m k told c.args.self.now.typed c.args.self.now.machine c.args.self.now.mapping held c.in-Ok.resolved
    (record {
      tree_is = c.in-Ok.ensures.program;
      machine_is = c.in-Ok.ensures.machine;
      mapping_is = c.in-Ok.ensures.mapping;
      forms = c.in-Ok.ensures.forms;
      found = c.in-Ok.ensures.found;
    })
    c.in-Err-refuse_race.end c.in-Err-refuse_race.ensures.refused
