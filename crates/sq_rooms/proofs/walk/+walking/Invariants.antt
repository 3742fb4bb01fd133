use Rattle.std.proofs.Common.{◌≡◌, ◌+◌, ◌*◌, ◌++◌, drop, map}
use denote.Param.Weighed.{most}
use Rattle.sq_ir.proofs.term.Term.TheLaws.{the_size}
use Rattle.sq_rooms.specs.Terms.{part, in_turn}
use Rattle.sq_rooms.proofs.Places.{IsBack}
use Rattle.sq_rooms.proofs.walk.+walking.Given as goal

abbrev pub invariant-walk_parts-loop-part : goal.invariant-walk_parts-loop-part
invariant-walk_parts-loop-part l =
    l.names ++ in_turn (map (part l.nodes) (drop l.part-index l.parts)) l.node l.next ≡ l.fn.names ++ in_turn (map (part l.nodes) l.parts) l.node l.first

abbrev pub invariant-walk_back-loop-i : goal.invariant-walk_back-loop-i
invariant-walk_back-loop-i l =
    IsBack (part l.nodes) l.parts l.node l.first l.i l.next l.lists

abbrev pub decreases-walk_back-loop-i : goal.decreases-walk_back-loop-i
decreases-walk_back-loop-i l = l.i

abbrev pub decreases-walk : goal.decreases-walk
decreases-walk l = 4 * the_size l.term.now

abbrev pub decreases-walk_scope : goal.decreases-walk_scope
decreases-walk_scope l = 4 * the_size l.body.now + 1

abbrev pub decreases-walk_parts : goal.decreases-walk_parts
decreases-walk_parts l = 4 * most the_size l.parts.now + 2

abbrev pub decreases-walk_back : goal.decreases-walk_back
decreases-walk_back l = 4 * most the_size l.parts.now + 2

abbrev pub decreases-walk_beside : goal.decreases-walk_beside
decreases-walk_beside l = 4 * most the_size l.parts.now + 3
