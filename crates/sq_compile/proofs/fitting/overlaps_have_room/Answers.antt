use Rattle.sq_compile.proofs.Marks.{runs_are_marked}
use Rattle.sq_compile.proofs.Enough.{overlaps_have_enough}
use Rattle.sq_compile.proofs.Rooms.{overlaps_have_room}
use Rattle.sq_compile.proofs.fitting.overlaps_have_room.Goals as goal

pub returns : goal.returns
returns c =
    let marked = runs_are_marked c.calls_are_listed.ensures c.bodies_are_tables.ensures
    c.callers_come_first.ensures.forms c.needs_are_sound.ensures.levels in
    overlaps_have_room marked (overlaps_have_enough marked) (record {
      callers = c.callers_come_first.ensures.forms;
      levels = c.needs_are_sound.ensures.levels;
      pipes = c.none_overlaps.ensures;
      hoist = c.choices_are_hoisted.ensures;
      none = c.hoisted_overlap_nothing.ensures;
      chosen = c.overlaps_may_be_chosen.ensures;
      tops = c.ends_are_tops.ensures;
      busy = c.loops_are_busy.ensures;
      sums = c.sums_fit.ensures;
    })
