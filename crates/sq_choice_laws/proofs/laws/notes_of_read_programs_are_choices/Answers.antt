use Rattle.sq_choice_laws.proofs.ReadRising.{maps_rise}
use Rattle.sq_choice_laws.proofs.laws.notes_of_read_programs_are_choices.Goals as goal

pub returns-clause-rise : goal.returns-clause-rise
returns-clause-rise c = maps_rise c.maps_of_texts_rise.ensures

pub returns-clause-notes : goal.returns-clause-notes
returns-clause-notes c = λ r given.
    c.notes_are_choices.ensures r (c.resolved_programs_were_walked.ensures r)
    (maps_rise c.maps_of_texts_rise.ensures r given)
