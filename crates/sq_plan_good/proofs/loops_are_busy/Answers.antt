use Rattle.sq_plan_good.proofs.Counting.{loops_are_busy}
use Rattle.sq_plan_good.proofs.loops_are_busy.Goals as goal

pub returns : goal.returns
returns c = loops_are_busy
