use Rattle.std.proofs.Common.{◌≡◌, map, drop, max}
use Rattle.std.specs.List.{fold}
use Rattle.sq_machfile.specs.Nodes.{at_level, children_of}
use Rattle.sq_machfile.specs.Machines.{greatest}
use Rattle.sq_machfile.proofs.levels.most_children.Given as goal

abbrev pub invariant-loop-node : goal.invariant-loop-node
invariant-loop-node l = fold max l.most (map children_of (at_level (drop l.node-index l.nodes) l.level)) ≡ greatest (map children_of (at_level l.nodes l.level))
