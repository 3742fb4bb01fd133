use Rattle.std.proofs.Common.{◌<◌, suc, ◌∙◌, ap, arith, get_or, length}
use Rattle.sq_machfile.proofs.Walks.{popped_start, popped_turn, popped_none, popped_all}
use Rattle.sq_machfile.proofs.nested.with_children.Goals as goal
use Rattle.sq_machfile.proofs.nested.with_children.Goals.{in-Some+in_ok-children+in_ok-push+in_ok-count, in_default}

pub loop-turn-init : goal.loop-turn-init
loop-turn-init c = rw c.new-counts.ensures.items (rw c.new-found.ensures.items (popped_start c.args.nodes))

pub loop-turn-preserved : goal.loop-turn-preserved
loop-turn-preserved c = elim c.match-pop.branch [
  | in-Some+in_ok-children+in_ok-push+in_ok-count w ↦ rw w.counts-is (rw w.found-is (rw w.in_ok-push.ensures.items
      (popped_turn c.args.nodes c.pop.new.self c.loop-turn.nodes w.in-Some.node c.loop-turn.counts.items w.count.new.counts.items c.loop-turn.found.items c.loop-turn._turn w.in_ok-children.children
      w.in-Some.ensures c.loop-turn.invariant (w.in_ok-children.ensures ∙ ap (λ xs. get_or xs (suc w.in-Some.node.depth) 0) w.deref.ensures.value) w.in_ok-count.ensures)))
  | in_default w ↦
      (let turn : c.loop-turn._turn < length c.args.nodes = omega (arith, c.loop-turn-test.true, c.len-turn-end.ensures) in
      absurd (popped_none c.args.nodes c.loop-turn.nodes c.loop-turn.counts.items c.loop-turn.found.items c.loop-turn._turn w.in_default.ensures.0 turn c.loop-turn.invariant))
]

pub returns : goal.returns
returns c = c.from_vec.ensures ∙ c.reverse.ensures.items ∙ popped_all c.args.nodes c.loop-turn.nodes c.loop-turn.counts.items c.loop-turn.found.items c.loop-turn._turn (omega (arith, c.loop-turn-test.false, c.loop-turn.auto._turn-end, c.len-turn-end.ensures)) c.loop-turn.invariant
