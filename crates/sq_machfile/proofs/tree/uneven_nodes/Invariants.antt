use Rattle.std.proofs.Common.{◌≡◌, ◌++◌, ◌+◌, ◌-◌}
use Rattle.sq_machfile.specs.Nodes.{total, children_of, linked}
use Rattle.sq_machfile.specs.Machines.{by_level}
use Rattle.sq_machfile.proofs.tree.uneven_nodes.Given as goal

abbrev pub invariant-loop-level : goal.invariant-loop-level
invariant-loop-level l = (l.tree.nodes ++ linked l.tree.next (by_level l.level (l.levels - l.level) l.nodes) ≡ linked 1 (by_level 0 l.levels l.nodes))
    × (l.tree.next + total children_of (by_level l.level (l.levels - l.level) l.nodes) ≡ 1 + total children_of (by_level 0 l.levels l.nodes))
