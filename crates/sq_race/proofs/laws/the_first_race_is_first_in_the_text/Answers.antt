use Rattle.sq_race.proofs.FirstInText.{first_in_text}
use Rattle.sq_race.proofs.laws.the_first_race_is_first_in_the_text.Goals as goal

pub returns : goal.returns
returns c = first_in_text
