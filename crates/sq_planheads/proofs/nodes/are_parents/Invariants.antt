use Rattle.std.proofs.Common.{◌≡◌, drop, length}
use Rattle.sq_planheads.specs.Nodes.{are_parents}
use Rattle.sq_planheads.proofs.nodes.are_parents.Given as goal

abbrev pub invariant-loop-node : goal.invariant-loop-node
invariant-loop-node l = are_parents (length l.nodes) l.left (drop l.node-index l.nodes) ≡ are_parents (length l.nodes) l.fn.left l.nodes
