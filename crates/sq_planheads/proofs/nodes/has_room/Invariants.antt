use Rattle.std.proofs.Common.{◌≡◌, ◌^◌, drop}
use Rattle.sq_planheads.specs.Nodes.{has_room}
use Rattle.sq_planheads.proofs.nodes.has_room.Given as goal

abbrev pub invariant-loop-node : goal.invariant-loop-node
invariant-loop-node l = has_room l.left (drop l.node-index l.nodes) ≡ has_room (2 ^ 31) l.nodes
