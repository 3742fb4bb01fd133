use Rattle.std.proofs.Common.{◌≡◌, ◌+◌, ◌*◌, ◌-◌, ◌<◌, ◌≤◌, length, true}
use denote.Param.Weighed.{most}
use Rattle.sq_ir.proofs.term.Term.TheLaws.{the_size}
use Rattle.sq_sched.specs.Children.{is_at}
use Rattle.sq_planfile.specs.Words.{part_at, turn_at, child_at}
use Rattle.sq_planfile.proofs.Joins.{InTurns, AreBeside}
use Rattle.sq_planfile.proofs.collect.+collecting.Given as goal

abbrev pub invariant-collect_parts-loop-i : goal.invariant-collect_parts-loop-i
invariant-collect_parts-loop-i l = InTurns (length l.parts) (part_at l.env l.parts) l.fn.out l.out l.i

abbrev pub decreases-collect_parts-loop-i : goal.decreases-collect_parts-loop-i
decreases-collect_parts-loop-i l = length l.parts - l.i

abbrev pub invariant-collect_beside-loop-i : goal.invariant-collect_beside-loop-i
invariant-collect_beside-loop-i l = AreBeside (length l.parts) (part_at l.env l.parts) l.fn.out l.out l.i

abbrev pub decreases-collect_beside-loop-i : goal.decreases-collect_beside-loop-i
decreases-collect_beside-loop-i l = length l.parts - l.i

abbrev pub invariant-collect_child-loop-turn : goal.invariant-collect_child-loop-turn
invariant-collect_child-loop-turn l =
    (l.turn ≤ l.spread.turns) × (l.turn < l.spread.turns → is_at l.spread l.child l.turn ≡ true)
    × InTurns l.spread.turns (turn_at l.env l.spread l.body l.child) l.fn.out l.out l.turn

abbrev pub decreases-collect_child-loop-turn : goal.decreases-collect_child-loop-turn
decreases-collect_child-loop-turn l = l.spread.turns - l.turn

abbrev pub invariant-collect_children-loop-child : goal.invariant-collect_children-loop-child
invariant-collect_children-loop-child l = AreBeside l.spread.children (child_at l.env l.spread l.body) l.fn.out l.out l.child

abbrev pub decreases-collect_children-loop-child : goal.decreases-collect_children-loop-child
decreases-collect_children-loop-child l = l.spread.children - l.child

abbrev pub decreases-collect : goal.decreases-collect
decreases-collect l = 6 * the_size l.term.now

abbrev pub decreases-collect_arm : goal.decreases-collect_arm
decreases-collect_arm l = 6 * most the_size l.arms.now + 1

abbrev pub decreases-collect_parts : goal.decreases-collect_parts
decreases-collect_parts l = 6 * most the_size l.parts.now + 2

abbrev pub decreases-collect_beside : goal.decreases-collect_beside
decreases-collect_beside l = 6 * most the_size l.parts.now + 2

abbrev pub decreases-collect_par : goal.decreases-collect_par
decreases-collect_par l = 6 * most the_size l.parts.now + 3

abbrev pub decreases-collect_child : goal.decreases-collect_child
decreases-collect_child l = 6 * the_size l.body.now + 1

abbrev pub decreases-collect_children : goal.decreases-collect_children
decreases-collect_children l = 6 * the_size l.body.now + 2

abbrev pub decreases-collect_spread : goal.decreases-collect_spread
decreases-collect_spread l = 6 * the_size l.body.now + 3

abbrev pub decreases-collect_scope : goal.decreases-collect_scope
decreases-collect_scope l = 6 * the_size l.body.now + 1

abbrev pub decreases-collect_within : goal.decreases-collect_within
decreases-collect_within l = 6 * the_size l.body.now + 2
