use Rattle.std.proofs.Common.{◌≡◌, ◌-◌, ◌++◌}
use Rattle.sq_sums.specs.Sums.{way_nodes, row_nodes}
use Rattle.sq_sums.proofs.sums.add_nodes.Given as goal

abbrev pub invariant-loop-way : goal.invariant-loop-way
invariant-loop-way l = l.list ++ way_nodes l.nodes l.row l.node (l.ways - l.way) l.way ≡ l.fn.list
    ++ row_nodes l.nodes l.row l.node
