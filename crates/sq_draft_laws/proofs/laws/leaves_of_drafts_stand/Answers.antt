use Rattle.sq_draft_laws.proofs.LeavesHold.{leaves_of_drafts_stand}
use Rattle.sq_draft_laws.proofs.laws.leaves_of_drafts_stand.Goals as goal

pub returns : goal.returns
returns c = leaves_of_drafts_stand c.bodies_are_tables.ensures c.leaf_variants_may_be_compiled.ensures
    c.arrays_in_line_can_be_run_over.ensures
