use Rattle.sq_driver.proofs.commands.run.run_laws.Goals as goal

pub returns : goal.returns
returns c = record {
  entry = c.entry_is_first.ensures;
  root = record {
    values = c.values_are_those_of_their_array.ensures;
    picked = c.picked_places_fit.ensures.parts;
    fit = c.picked_places_fit.ensures.fit;
    others = c.picked_places_fit.ensures.others;
  };
  places = c.places_fit.ensures.plan;
  held = c.inputs_are_held.ensures;
  ends = c.runs_end_as_meant.ensures;
  lacks = c.lacks_are_one.ensures.lacks;
}
