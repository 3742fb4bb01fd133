use Rattle.std.proofs.Common.{◌≡◌, ◌+◌, ◌*◌, ◌-◌, drop, map}
use denote.Param.Weighed.{most}
use Rattle.sq_spec.proofs.statement.Statement.TheLaws.{the_size}
use Rattle.sq_pipe.specs.Runs as spec
use Rattle.sq_pipe.proofs.reach.+walk.Given as goal

abbrev pub invariant-note_all-loop-x : goal.invariant-note_all-loop-x
invariant-note_all-loop-x l = spec.noted l.node.children (spec.all_lands (map (spec.landing l.node.rule l.node.children)
    (drop l.x-index l.list)) l.inside l.child l.k) l.out
    ≡ spec.noted l.node.children (spec.all_lands (map (spec.landing l.node.rule l.node.children) l.list) l.inside
    l.child l.k) l.fn.out

abbrev pub invariant-note_turns-loop-t : goal.invariant-note_turns-loop-t
invariant-note_turns-loop-t l =
    spec.noted l.node.children (spec.turns_land (spec.turn_lands l.node.rule l.node.children
    (map (spec.landing l.node.rule l.node.children) l.body) l.turns.inside l.turns.spread l.turns.count l.turns.start
    l.turns.child) (l.turns.count - l.t) l.t) l.out
    ≡ spec.noted l.node.children (spec.turns_land (spec.turn_lands l.node.rule l.node.children
    (map (spec.landing l.node.rule l.node.children) l.body) l.turns.inside l.turns.spread l.turns.count l.turns.start
    l.turns.child) l.turns.count 0) l.fn.out

abbrev pub decreases-note_one : goal.decreases-note_one
decreases-note_one l = 4 * the_size l.x.now

abbrev pub decreases-note_all : goal.decreases-note_all
decreases-note_all l = 4 * most the_size l.list.now + 1

abbrev pub decreases-note_turn : goal.decreases-note_turn
decreases-note_turn l = 4 * most the_size l.body.now + 2

abbrev pub decreases-note_turns : goal.decreases-note_turns
decreases-note_turns l = 4 * most the_size l.body.now + 3
