use Rattle.sq_compile.proofs.Compiles.{good, placed, fits, over}
use Rattle.sq_compile.proofs.passes.placed.Goals as goal

pub returns-clause-good : goal.returns-clause-good
returns-clause-good c = good c.placing_succeeds.ensures c.overlaps_may_be_chosen.ensures c.args.r.now
    (c.resolved_programs_were_walked.ensures c.args.r.now) c.args.draft c.requires.its c.args.nodes c.requires.nodes
    c.requires.memories c.placed_plans_are_good.ensures c.placed_plans_stand_by_forms.ensures c.overlaps_hold.ensures
    c.overlaps_fit.ensures c.requires.notes c.place.result c.place.ensures.placed

pub returns-clause-placed : goal.returns-clause-placed
returns-clause-placed c = placed c.placing_succeeds.ensures c.overlaps_may_be_chosen.ensures c.args.r.now
    (c.resolved_programs_were_walked.ensures c.args.r.now) c.args.draft c.requires.its c.args.nodes c.requires.nodes
    c.requires.memories c.requires.notes c.place.result c.place.ensures.placed

pub returns-clause-fits : goal.returns-clause-fits
returns-clause-fits c = fits c.placing_succeeds.ensures c.overlaps_may_be_chosen.ensures c.args.r.now
    (c.resolved_programs_were_walked.ensures c.args.r.now) c.args.draft c.requires.its c.args.nodes c.requires.nodes
    c.requires.memories c.choices_are_hoisted.ensures c.hoisted_overlap_nothing.ensures c.overlaps_have_room.ensures
    c.needs_are_sums.ensures c.sums_are_needs.ensures c.needs_are_small.ensures c.requires.limits c.place.result
    c.place.ensures.placed

pub returns-clause-over : goal.returns-clause-over
returns-clause-over c = over c.placing_succeeds.ensures c.overlaps_may_be_chosen.ensures c.args.r.now
    (c.resolved_programs_were_walked.ensures c.args.r.now) c.args.draft c.requires.its c.args.nodes c.requires.nodes
    c.requires.memories c.choices_are_hoisted.ensures c.hoisted_overlap_nothing.ensures c.overlaps_have_room.ensures
    c.needs_are_sums.ensures c.sums_are_needs.ensures c.needs_are_small.ensures c.requires.limits c.place.result
    c.place.ensures.over
