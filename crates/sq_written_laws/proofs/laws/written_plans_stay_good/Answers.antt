use Rattle.sq_written_laws.proofs.Plans.{written_sound, written_good}
use Rattle.sq_written_laws.proofs.laws.written_plans_stay_good.Goals as goal

pub returns-clause-sound : goal.returns-clause-sound
returns-clause-sound c f order formed heads = written_sound f order formed heads

pub returns-clause-good : goal.returns-clause-good
returns-clause-good c f order good heads = written_good f order good heads
