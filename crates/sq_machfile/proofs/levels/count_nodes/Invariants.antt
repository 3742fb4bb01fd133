use Rattle.std.proofs.Common.{◌≡◌, ◌+◌, ◌≤◌, length, drop}
use Rattle.sq_machfile.specs.Nodes.{at_level}
use Rattle.sq_machfile.proofs.levels.count_nodes.Given as goal

abbrev pub invariant-loop-node : goal.invariant-loop-node
invariant-loop-node l = (l.count + length (at_level (drop l.node-index l.nodes) l.level) ≡ length (at_level l.nodes l.level)) × (l.count ≤ l.node-index)
