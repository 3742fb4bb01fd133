use Rattle.std.proofs.Common.{◌≡◌, List, ◌++◌, ◌+◌, ◌-◌, replicate}
use Rattle.sq_machfile.specs.declared.node.Node.{Node}
use Rattle.sq_machfile.specs.Nodes.{total, children_of, linked}
use Rattle.sq_machfile.specs.Machines.{even_node}
use Rattle.sq_machfile.proofs.tree.Tree.add_even.Given as goal

abbrev pub invariant-loop-made : goal.invariant-loop-made
invariant-loop-made l = ((later : List Node) → l.self.nodes ++ linked l.self.next (replicate (l.width - l._made) (even_node l.index l.level) ++ later) ≡ l.fn.self.nodes ++ linked l.fn.self.next (replicate l.width (even_node l.index l.level) ++ later))
    × (l.self.next + total children_of (replicate (l.width - l._made) (even_node l.index l.level)) ≡ l.fn.self.next + total children_of (replicate l.width (even_node l.index l.level)))
