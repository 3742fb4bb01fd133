use Rattle.std.proofs.Common.{◌≡◌, ◌++◌, drop}
use Rattle.sq_sums.specs.Sums.{AreTables, site_nodes}
use Rattle.sq_sums.proofs.sums.site_nodes.Given as goal

abbrev pub invariant-loop-node : goal.invariant-loop-node
invariant-loop-node l = record {
  tables : AreTables l.route l.sites l.tables.items;
  list : l.list ++ site_nodes l.nodes l.route l.sites l.j (drop l.node-index l.at)
      ≡ site_nodes l.nodes l.route l.sites l.j l.at;
}
