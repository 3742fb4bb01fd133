use Rattle.sq_choice_laws.proofs.NotedForms.{hoist_notes_are_choices}
use Rattle.sq_choice_laws.proofs.laws.hoist_notes_are_choices.Goals as goal

pub returns : goal.returns
returns c = hoist_notes_are_choices
