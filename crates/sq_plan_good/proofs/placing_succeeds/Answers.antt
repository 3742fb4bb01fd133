use Rattle.sq_plan_good.proofs.Good.{drafts_can_be_placed}
use Rattle.sq_plan_good.proofs.placing_succeeds.Goals as goal

pub returns : goal.returns
returns c = drafts_can_be_placed (record {
  walked = c.resolved_programs_were_walked.ensures;
  placeable = c.drafts_can_be_placed.ensures;
})
