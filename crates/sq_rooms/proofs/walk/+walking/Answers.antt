use Rattle.std.proofs.Common.{◌+◌, ap, ◌∙◌}
use Rattle.sq_rooms.specs.Terms.{part}
use Rattle.sq_rooms.proofs.Places.{back-more}
use Rattle.sq_rooms.proofs.walk.+walking.Goals as goal

pub walk_back-loop-i-preserved : goal.walk_back-loop-i-preserved
walk_back-loop-i-preserved t c =
    let n = c.in_ok-next.ensures ∙ ap (λ k. c.loop-i.next + k) c.len.ensures in
    back-more (part c.args.nodes.now) c.args.parts.now c.args.node c.args.first c.loop-i.i c.loop-i.next c.in_ok-next.next c.loop-i.lists c.push.new.self c.index-parts-i.result c.new-list.result c.walk.new.names c.loop-i-test.true c.loop-i.invariant c.index-parts-i.is c.new-list.ensures c.in_ok-walk.ensures n c.in_ok-push.ensures.ok
