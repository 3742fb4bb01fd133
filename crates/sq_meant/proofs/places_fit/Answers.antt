use Rattle.sq_meant.proofs.Given as given
use Rattle.sq_meant.proofs.places_fit.Goals as goal

pub returns-clause-plan : goal.returns-clause-plan
returns-clause-plan c = given.places_fit c.resolved_programs_were_walked.ensures
    c.entries_are_whole.ensures
    c.drafts_own_their_buffers.ensures

pub returns-clause-bank : goal.returns-clause-bank
returns-clause-bank c = given.banks_have_places c.resolved_programs_were_walked.ensures
    c.entries_are_whole.ensures
    c.drafts_own_their_buffers.ensures
