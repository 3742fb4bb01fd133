use Rattle.std.proofs.Common.{◌≡◌, drop}
use Rattle.sq_planheads.specs.Nodes.{deepest}
use Rattle.sq_planheads.proofs.nodes.deepest.Given as goal

abbrev pub invariant-loop-node : goal.invariant-loop-node
invariant-loop-node l = deepest l.level (drop l.node-index l.nodes) ≡ deepest 0 l.nodes
