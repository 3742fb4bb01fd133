use Rattle.sq_meant.proofs.Given as given
use Rattle.sq_meant.proofs.runs_end_as_meant.Goals as goal

pub returns : goal.returns
returns c = given.runs_end_as_meant c.resolved_programs_were_walked.ensures
    c.entries_are_whole.ensures
    c.drafts_own_their_buffers.ensures c.good_plans_have_one_result.ensures.runs
    c.good_plans_have_one_result.ensures.by_form
