use Rattle.std.proofs.Common.{arith}
use Rattle.sq_race.proofs.Leasts.{least_all}
use Rattle.sq_race.proofs.plain.least_pair.Goals as goal

pub returns : goal.returns
returns c = least_all _ _ _ c.loop-later.later c.loop-later.invariant (omega arith)
