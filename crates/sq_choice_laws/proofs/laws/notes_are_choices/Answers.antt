use Rattle.sq_choice_laws.proofs.NotedPrograms.{notes_are_choices}
use Rattle.sq_choice_laws.proofs.laws.notes_are_choices.Goals as goal

pub returns : goal.returns
returns c = notes_are_choices
