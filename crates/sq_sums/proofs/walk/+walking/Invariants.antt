use Rattle.std.proofs.Common.{◌≡◌, ◌+◌, ◌*◌, ◌-◌, drop}
use denote.Param.Weighed.{most}
use Rattle.sq_ir.proofs.term.Term.TheLaws.{the_size}
use Rattle.sq_sums.specs.Tops.{stand_of, raise_by}
use Rattle.sq_sums.specs.Grounds.{all_on, turns_on}
use Rattle.sq_sums.proofs.walk.+walking.Given as goal

abbrev pub invariant-walk_all-loop-t : goal.invariant-walk_all-loop-t
invariant-walk_all-loop-t l = raise_by (all_on l.on (drop l.t-index l.ts) (stand_of l.at)) l.sums
    ≡ raise_by (all_on l.on l.ts (stand_of l.at)) l.fn.sums

abbrev pub invariant-walk_each-loop-i : goal.invariant-walk_each-loop-i
invariant-walk_each-loop-i l = raise_by (turns_on l.on l.body (stand_of l.at) (l.n - l.i) l.i) l.sums
    ≡ raise_by (turns_on l.on l.body (stand_of l.at) l.n 0) l.fn.sums

abbrev pub decreases-walk : goal.decreases-walk
decreases-walk l = 4 * the_size l.t.now

abbrev pub decreases-walk_all : goal.decreases-walk_all
decreases-walk_all l = 4 * most the_size l.ts.now + 1

abbrev pub decreases-walk_arm : goal.decreases-walk_arm
decreases-walk_arm l = 4 * most the_size l.arms.now + 1

abbrev pub decreases-walk_turns : goal.decreases-walk_turns
decreases-walk_turns l = 4 * the_size l.body.now + 2

abbrev pub decreases-walk_each : goal.decreases-walk_each
decreases-walk_each l = 4 * the_size l.body.now + 1

abbrev pub decreases-walk_scope : goal.decreases-walk_scope
decreases-walk_scope l = 4 * the_size l.body.now + 3

abbrev pub decreases-walk_child : goal.decreases-walk_child
decreases-walk_child l = 4 * the_size l.body.now + 2

abbrev pub decreases-walk_open : goal.decreases-walk_open
decreases-walk_open l = 4 * the_size l.body.now + 1
