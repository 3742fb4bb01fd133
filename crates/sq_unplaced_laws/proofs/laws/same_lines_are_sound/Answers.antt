use Rattle.sq_unplaced_laws.proofs.Plans.{same_sound_lines}
use Rattle.sq_unplaced_laws.proofs.laws.same_lines_are_sound.Goals as goal

pub returns : goal.returns
returns c x y same sound = same_sound_lines x y same sound
