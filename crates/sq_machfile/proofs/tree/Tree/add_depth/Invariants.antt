use Rattle.std.proofs.Common.{◌≡◌, List, ◌++◌, ◌+◌, drop}
use Rattle.sq_machfile.specs.declared.node.Node.{Node}
use Rattle.sq_machfile.specs.Nodes.{total, children_of, linked}
use Rattle.sq_machfile.specs.Machines.{nodes_of_depth}
use Rattle.sq_machfile.proofs.tree.Tree.add_depth.Given as goal

abbrev pub invariant-loop-node : goal.invariant-loop-node
invariant-loop-node l = ((later : List Node) → l.self.nodes ++ linked l.self.next (nodes_of_depth l.level (drop l.node-index l.nodes) ++ later) ≡ l.fn.self.nodes ++ linked l.fn.self.next (nodes_of_depth l.level l.nodes ++ later))
    × (l.self.next + total children_of (nodes_of_depth l.level (drop l.node-index l.nodes)) ≡ l.fn.self.next + total children_of (nodes_of_depth l.level l.nodes))
