use Rattle.std.proofs.Common.{◌≡◌, ◌++◌, ◌+◌, drop}
use Rattle.sq_machfile.specs.Nodes.{total, children_of, linked}
use Rattle.sq_machfile.specs.Machines.{even_nodes}
use Rattle.sq_machfile.proofs.tree.even_nodes.Given as goal

abbrev pub invariant-loop-level : goal.invariant-loop-level
invariant-loop-level l = (l.tree.nodes ++ linked l.tree.next (even_nodes l.index l.width (drop l.level-index l.levels)) ≡ linked 1 (even_nodes 0 1 l.levels))
    × (l.tree.next + total children_of (even_nodes l.index l.width (drop l.level-index l.levels)) ≡ 1 + total children_of (even_nodes 0 1 l.levels))
    × (l.index ≡ l.level-index)
