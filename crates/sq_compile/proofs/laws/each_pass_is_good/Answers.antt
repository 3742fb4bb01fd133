use Rattle.sq_compile.proofs.Passing.{each_pass_is_good}
use Rattle.sq_compile.proofs.laws.each_pass_is_good.Goals as goal

pub returns : goal.returns
returns c = each_pass_is_good (record {
  walked = c.resolved_programs_were_walked.ensures;
  unheld = c.unheld_fits.ensures;
  unpiped = c.unpiped_fits.ensures;
  hoisted = c.choices_are_hoisted.ensures;
  hold = c.choices_hold.ensures;
  nothing = c.hoisted_overlap_nothing.ensures;
  overlapped = c.overlaps_may_be_chosen.ensures;
  overlaps_hold = c.overlaps_hold.ensures;
  overlaps_fit = c.overlaps_fit.ensures;
}) c.plans_with_room_are_good.ensures
