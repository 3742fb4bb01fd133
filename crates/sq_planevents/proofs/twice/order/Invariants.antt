use Rattle.sq_planevents.specs.Twice.{IsOrder}
use Rattle.sq_planevents.proofs.twice.order.Given as goal

abbrev pub invariant-loop-j : goal.invariant-loop-j
invariant-loop-j l = IsOrder l.fn.steps l.steps
