use Rattle.std.proofs.Common.{◌+◌, ◌*◌}
use Rattle.sq_ir.proofs.num.Num.TheLaws.{the_size}
use Rattle.sq_sched.proofs.env.+values.Given as goal

abbrev pub decreases-value_of : goal.decreases-value_of
decreases-value_of l = 2 * the_size l.number.now

abbrev pub decreases-plain_value : goal.decreases-plain_value
decreases-plain_value l = 2 * the_size l.number.now + 1
