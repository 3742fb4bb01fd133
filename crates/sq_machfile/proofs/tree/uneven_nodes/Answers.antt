use Rattle.std.proofs.Common.{arith}
use Rattle.sq_machfile.proofs.Walks.{depth_room, depth_put, depth_next}
use Rattle.sq_machfile.proofs.tree.uneven_nodes.Goals as goal

pub add_depth-requires : goal.add_depth-requires
add_depth-requires c =
    let room = depth_room c.args.nodes.now c.args.levels c.loop-level.level c.loop-level.tree.next c.loop-level-test.true _ c.loop-level.invariant.1 c.requires in
    omega (arith, room)

pub loop-level-preserved : goal.loop-level-preserved
loop-level-preserved c = (
  depth_put c.args.nodes.now c.args.levels c.loop-level.level c.loop-level.tree.next c.loop-level-test.true c.loop-level.tree c.add_depth.new.self _ c.loop-level.invariant.0 c.in_ok-add_depth.ensures.added,
  depth_next c.args.nodes.now c.args.levels c.loop-level.level c.loop-level.tree.next c.loop-level-test.true c.add_depth.new.self.next _ c.loop-level.invariant.1 c.in_ok-add_depth.ensures.next,
)
