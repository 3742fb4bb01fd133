use Rattle.std.proofs.Common.{◌+◌, arith, ap}
use Rattle.sq_machfile.proofs.Walks.{even_room, even_put, even_next}
use Rattle.sq_machfile.proofs.tree.even_nodes.Goals as goal

pub add_even-requires : goal.add_even-requires
add_even-requires c =
    let room = even_room c.args.levels.now c.loop-level.index c.loop-level.level-index c.loop-level.width c.loop-level.tree.next c.level-item.result c.level-item.result c.loop-level-test.true c.level-item.is
    _ c.loop-level.invariant.1 c.requires.children in
    omega (arith, room.0)

pub overflow_mul-width : goal.overflow_mul-width
overflow_mul-width c =
    let room = even_room c.args.levels.now c.loop-level.index c.loop-level.level-index c.loop-level.width c.loop-level.tree.next c.level-item.result c.level-item.result c.loop-level-test.true c.level-item.is
    _ c.loop-level.invariant.1 c.requires.children in
    omega (arith, room.1)

pub loop-level-preserved : goal.loop-level-preserved
loop-level-preserved c = (
  even_put c.args.levels.now c.loop-level.index c.loop-level.level-index c.loop-level.width c.loop-level.tree.next c.level-item.result c.level-item.result c.loop-level-test.true c.level-item.is
      c.loop-level.tree c.add_even.new.self _ c.loop-level.invariant.0 c.in_ok-add_even.ensures.added,
  even_next c.args.levels.now c.loop-level.index c.loop-level.level-index c.loop-level.width c.loop-level.tree.next c.level-item.result c.level-item.result c.loop-level-test.true c.level-item.is
      c.add_even.new.self.next _ c.loop-level.invariant.1 c.in_ok-add_even.ensures.next,
  ap (λ n. n + 1) c.loop-level.invariant.2,
)
