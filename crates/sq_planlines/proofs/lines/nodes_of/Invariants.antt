use Rattle.std.proofs.Common.{◌≡◌, ◌++◌, map, drop}
use Rattle.sq_planlines.specs.Narrow.{node_of}
use Rattle.sq_planlines.proofs.lines.nodes_of.Given as goal

abbrev pub invariant-loop-line : goal.invariant-loop-line
invariant-loop-line l = l.nodes ++ map node_of (drop l.line-index l.lines) ≡ map node_of l.lines
