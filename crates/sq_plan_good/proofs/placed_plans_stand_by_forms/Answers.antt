use Rattle.sq_plan_good.proofs.Good.{placed_stand_by_forms}
use Rattle.sq_plan_good.proofs.placed_plans_stand_by_forms.Goals as goal

pub returns : goal.returns
returns c = placed_stand_by_forms c.resolved_programs_were_walked.ensures c.drafts_are_stacked_by_forms.ensures
    c.the_walk_lays_buffers.ensures.offsets
