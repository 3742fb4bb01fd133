use Rattle.sq_choice_laws.proofs.Overlaps.{candidates_are_all}
use Rattle.sq_choice_laws.proofs.laws.candidates_are_all.Goals as goal

pub returns : goal.returns
returns c = candidates_are_all
