use Rattle.std.proofs.Common.{◌≡◌, ℕ, List, ◌++◌, map, drop}
use Rattle.sq_ast.specs.Canonical.{all_of}
use Rattle.sq_plantext.specs.Layout.{spell_node}
use Rattle.sq_planfile.specs.Written.{line_of}
use Rattle.sq_planfile.proofs.lines.put_nodes.Given as goal

abbrev pub invariant-loop-node : goal.invariant-loop-node
invariant-loop-node l = (later : List ℕ) → l.out.items ++ all_of (map spell_node (map line_of (drop l.node-index l.nodes))) later
    ≡ l.fn.out.items ++ all_of (map spell_node (map line_of l.nodes)) later
