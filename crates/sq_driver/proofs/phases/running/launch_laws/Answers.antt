use Rattle.sq_driver.proofs.phases.running.launch_laws.Goals as goal

pub returns : goal.returns
returns c = record {
  room = c.banks_have_room.ensures.room;
  sizes = c.banks_have_room.ensures.sizes;
  small = c.banks_have_room.ensures.small;
  starts = c.filled_banks_are_starts.ensures;
}
