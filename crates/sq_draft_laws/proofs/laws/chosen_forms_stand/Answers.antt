use Rattle.sq_draft_laws.proofs.Hoisting.{chosen_stand}
use Rattle.sq_draft_laws.proofs.laws.chosen_forms_stand.Goals as goal

pub returns : goal.returns
returns c = chosen_stand
