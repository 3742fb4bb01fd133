use Rattle.sq_plan_good.proofs.Good.{with_room_are_good}
use Rattle.sq_plan_good.proofs.plans_with_room_are_good.Goals as goal

pub returns : goal.returns
returns c = with_room_are_good (record {
  walked = c.resolved_programs_were_walked.ensures;
  placeable = c.drafts_can_be_placed.ensures;
}) (record {
  leveled = c.buffers_have_their_levels.ensures;
  tables = c.bodies_are_tables.ensures;
  program = c.placed_is_program.ensures;
  chosen = c.chosen_forms_stand.ensures;
  works_mean = c.same_works_mean.ensures;
  works_race = c.same_works_race.ensures;
  term = c.terms_are_those_of_entries.ensures;
  homes = c.homes_fit_forms.ensures;
  entries = c.entries_are_whole.ensures;
  begins = c.drafts_begin_at_root.ensures;
  tabled = c.drafts_are_tabled.ensures;
  roomy = c.drafts_are_roomy.ensures;
  own = c.drafts_own_their_buffers.ensures;
  machines = c.memories_are_machines.ensures;
  lanes = c.lanes_are_there.ensures;
  stand = c.leaves_of_drafts_stand.ensures;
  short = c.leaves_are_short.ensures;
  fits = c.programs_fit.ensures;
  sit = c.entries_sit.ensures;
  plans = c.entries_are_plans.ensures;
  follow = c.entries_follow.ensures;
  calls = c.calls_are_of_tables.ensures;
  writes = c.plans_are_written.ensures;
  stowed = c.room_is_stowed.ensures;
  safe = c.plans_are_safe.ensures;
  inside = c.plans_inside.ensures;
  counted = c.plans_count.ensures;
  near = c.forms_are_near.ensures;
  paths = c.paths_are_short.ensures;
  formed = c.plans_are_well_formed.ensures;
  at_levels = c.leaves_are_at_levels.ensures;
  serial = c.race_free_maps_are_serial.ensures;
  means = c.tables_mean_the_program.ensures;
  race_free = c.tables_are_free_of_races.ensures;
})
