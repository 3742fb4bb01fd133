use Rattle.std.proofs.Common.{max, ◌+◌, ◌*◌}
use denote.Param.Weighed.{most}
use Rattle.sq_leaf.proofs.code.Code.TheLaws.{the_size}
use Rattle.sq_leaf.proofs.code.Step.TheLaws.{the_size as step_size}
use Rattle.sq_turns.proofs.values.+carried.Given as goal

abbrev pub decreases-carried : goal.decreases-carried
decreases-carried l = 4 * the_size l.code.now

abbrev pub decreases-under_extreme : goal.decreases-under_extreme
decreases-under_extreme l = 4 * the_size l.code.now + 1

abbrev pub decreases-extreme : goal.decreases-extreme
decreases-extreme l = 4 * max (the_size l.x.now) (the_size l.y.now) + 2

abbrev pub decreases-under : goal.decreases-under
decreases-under l = 4 * step_size l.step.now + 1

abbrev pub decreases-behind_front : goal.decreases-behind_front
decreases-behind_front l = 4 * most step_size l.list.now + 2

abbrev pub decreases-behind : goal.decreases-behind
decreases-behind l = 4 * most step_size l.list.now + 3
