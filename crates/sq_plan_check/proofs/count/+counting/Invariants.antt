use Rattle.std.proofs.Common.{◌≡◌, ◌+◌, ◌*◌, ◌-◌, ◌<◌, ◌≤◌, length, true}
use denote.Param.Weighed.{most}
use Rattle.sq_ir.proofs.term.Term.TheLaws.{the_size}
use Rattle.sq_sched.specs.Children.{is_at}
use Rattle.sq_walks.specs.Walks.{part_at, turn_at, child_at}
use Rattle.sq_plan_check.proofs.Counting.{IsSummed, weights}
use Rattle.sq_plan_check.proofs.count.+counting.Given as goal

abbrev pub invariant-count_parts-loop-i : goal.invariant-count_parts-loop-i
invariant-count_parts-loop-i l = IsSummed (length l.parts) (weights (part_at l.env l.parts)) l.whole l.i

abbrev pub decreases-count_parts-loop-i : goal.decreases-count_parts-loop-i
decreases-count_parts-loop-i l = length l.parts - l.i

abbrev pub invariant-count_child-loop-turn : goal.invariant-count_child-loop-turn
invariant-count_child-loop-turn l =
    (l.turn ≤ l.spread.turns) × (l.turn < l.spread.turns → is_at l.spread l.child l.turn ≡ true) × IsSummed l.spread.turns (weights (turn_at l.env l.spread l.body l.child)) l.whole l.turn

abbrev pub decreases-count_child-loop-turn : goal.decreases-count_child-loop-turn
decreases-count_child-loop-turn l = l.spread.turns - l.turn

abbrev pub invariant-count_children-loop-child : goal.invariant-count_children-loop-child
invariant-count_children-loop-child l = IsSummed l.spread.children (weights (child_at l.env l.spread l.body)) l.whole l.child

abbrev pub decreases-count_children-loop-child : goal.decreases-count_children-loop-child
decreases-count_children-loop-child l = l.spread.children - l.child

abbrev pub decreases-count : goal.decreases-count
decreases-count l = 4 * the_size l.term.now

abbrev pub decreases-count_arm : goal.decreases-count_arm
decreases-count_arm l = 4 * most the_size l.arms.now + 1

abbrev pub decreases-count_parts : goal.decreases-count_parts
decreases-count_parts l = 4 * most the_size l.parts.now + 2

abbrev pub decreases-count_inside : goal.decreases-count_inside
decreases-count_inside l = 4 * the_size l.body.now + 1

abbrev pub decreases-count_child : goal.decreases-count_child
decreases-count_child l = 4 * the_size l.body.now + 1

abbrev pub decreases-count_children : goal.decreases-count_children
decreases-count_children l = 4 * the_size l.body.now + 2
