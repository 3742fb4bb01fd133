use Rattle.sq_meant.proofs.Traffic.{runs_carry_the_traffic}
use Rattle.sq_meant.proofs.runs_carry_the_traffic.Goals as goal

pub returns : goal.returns
returns c = runs_carry_the_traffic c.runs_carry_what_the_plan_does.ensures.whole
