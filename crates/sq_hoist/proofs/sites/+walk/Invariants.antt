use Rattle.std.proofs.Common.{◌≡◌, ◌+◌, ◌*◌, ◌++◌, drop}
use denote.Param.Weighed.{most}
use Rattle.sq_spec.proofs.statement.Statement.TheLaws.{the_size}
use Rattle.sq_hoist.specs.Loops.{sites}
use Rattle.sq_hoist.proofs.sites.+walk.Given as goal

abbrev pub invariant-walk_all-loop-x : goal.invariant-walk_all-loop-x
invariant-walk_all-loop-x l = l.out ++ sites l.caller (drop l.x-index l.list) ≡ l.fn.out ++ sites l.caller l.list

abbrev pub decreases-walk : goal.decreases-walk
decreases-walk l = 5 * the_size l.x.now

abbrev pub decreases-walk_part : goal.decreases-walk_part
decreases-walk_part l = 5 * the_size l.x.now + 1

abbrev pub decreases-walk_all : goal.decreases-walk_all
decreases-walk_all l = 5 * most the_size l.list.now + 2

abbrev pub decreases-walk_alone : goal.decreases-walk_alone
decreases-walk_alone l = 5 * most the_size l.body.now + 3

abbrev pub decreases-walk_map : goal.decreases-walk_map
decreases-walk_map l = 5 * most the_size l.body.now + 4
