use Rattle.std.proofs.Common.{◌≡◌, ◌+◌, ◌*◌, ◌-◌, ◌<◌, ◌≤◌, length, true}
use denote.Param.Weighed.{most}
use Rattle.sq_ir.proofs.term.Term.TheLaws.{the_size}
use Rattle.sq_sched.specs.Shapes.{sum_of}
use Rattle.sq_sched.specs.Children.{is_at}
use Rattle.sq_walks.specs.Walks.{part_at, turn_at, child_at}
use Rattle.sq_plan_check.specs.Walked.{seen_entries}
use Rattle.sq_plan_check.proofs.Counting.{weights}
use Rattle.sq_plan_check.proofs.Walking.{InTurn, Beside}
use Rattle.sq_plan_check.proofs.walk.+walking.Given as goal

abbrev pub invariant-walk_parts-loop-i : goal.invariant-walk_parts-loop-i
invariant-walk_parts-loop-i l =
    InTurn (length l.parts) l.second (part_at l.env l.parts) (seen_entries l.fn.entries) (seen_entries l.entries) l.next l.i

abbrev pub decreases-walk_parts-loop-i : goal.decreases-walk_parts-loop-i
decreases-walk_parts-loop-i l = length l.parts - l.i

abbrev pub invariant-walk_child-loop-turn : goal.invariant-walk_child-loop-turn
invariant-walk_child-loop-turn l =
    (l.turn ≤ l.spread.turns) × (l.turn < l.spread.turns → is_at l.spread l.child l.turn ≡ true)
    × InTurn l.spread.turns l.second (turn_at l.env l.spread l.body l.child) (seen_entries l.fn.entries) (seen_entries l.entries) l.next l.turn

abbrev pub decreases-walk_child-loop-turn : goal.decreases-walk_child-loop-turn
decreases-walk_child-loop-turn l = l.spread.turns - l.turn

abbrev pub invariant-walk_beside-loop-i : goal.invariant-walk_beside-loop-i
invariant-walk_beside-loop-i l =
    (l.after ≡ sum_of (length l.parts - l.i) (weights (part_at l.env l.parts)) l.i)
    × Beside (length l.parts) l.second (part_at l.env l.parts) (seen_entries l.fn.entries) (seen_entries l.entries) l.i

abbrev pub decreases-walk_beside-loop-i : goal.decreases-walk_beside-loop-i
decreases-walk_beside-loop-i l = length l.parts - l.i

abbrev pub invariant-walk_children-loop-child : goal.invariant-walk_children-loop-child
invariant-walk_children-loop-child l =
    (l.after ≡ sum_of (l.spread.children - l.child) (weights (child_at l.env l.spread l.body)) l.child)
    × Beside l.spread.children l.second (child_at l.env l.spread l.body) (seen_entries l.fn.entries) (seen_entries l.entries) l.child

abbrev pub decreases-walk_children-loop-child : goal.decreases-walk_children-loop-child
decreases-walk_children-loop-child l = l.spread.children - l.child

abbrev pub decreases-walk : goal.decreases-walk
decreases-walk l = 4 * the_size l.term.now

abbrev pub decreases-walk_arm : goal.decreases-walk_arm
decreases-walk_arm l = 4 * most the_size l.arms.now + 1

abbrev pub decreases-walk_parts : goal.decreases-walk_parts
decreases-walk_parts l = 4 * most the_size l.parts.now + 2

abbrev pub decreases-walk_beside : goal.decreases-walk_beside
decreases-walk_beside l = 4 * most the_size l.parts.now + 2

abbrev pub decreases-walk_inside : goal.decreases-walk_inside
decreases-walk_inside l = 4 * the_size l.body.now + 1

abbrev pub decreases-walk_child : goal.decreases-walk_child
decreases-walk_child l = 4 * the_size l.body.now + 1

abbrev pub decreases-walk_children : goal.decreases-walk_children
decreases-walk_children l = 4 * the_size l.body.now + 2
