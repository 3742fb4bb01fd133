use Rattle.std.proofs.Common.{rules, ◌≡◌, ◌+◌, ◌∷◌, [], drop, get_or, sym, ap, subst}
use Rattle.std.specs.Prelude.{Some, slice_get}
use Rattle.sq_sums.specs.declared.sums.Table.{Table}
use Rattle.sq_sums.specs.Routes.{marks}
use Rattle.sq_sums.specs.Sums.{fan_at, row_nodes}
use Rattle.sq_sums.proofs.Gathering.{row_there, row_is, nodes_next, drop_here}
use Rattle.sq_sums.proofs.sums.site_nodes.Goals as goal

pub row_at-requires : goal.row_at-requires
row_at-requires c = row_there c.args.route.now c.args.sites c.memory-fan.result.children c.args.j c.as_slice.result.now
    c.in_ok-i.i c.requires.there
    (subst (λ l. (t : Table) × (slice_get l c.in_ok-i.i ≡ Some t)
    × (t.marks.items ≡ marks c.memory-fan.result.children c.args.sites c.args.route.now)) (sym c.as_slice.ensures.value)
    c.in_ok-i.ensures.there)

pub loop-node-preserved : goal.loop-node-preserved
loop-node-preserved c =
    let n = get_or c.args.at.now c.loop-node.node-index 0 in
    let d : drop c.loop-node.node-index c.args.at.now ≡ n ∷ drop (c.loop-node.node-index + 1) c.args.at.now
    = drop_here c.args.at.now c.loop-node.node-index c.loop-node-test.true in
    let r : c.row_at.result.now ≡ get_or (marks (fan_at c.args.nodes.now n) c.args.sites c.args.route.now) c.args.j [] =
    row_is c.args.route.now c.args.sites c.memory-fan.result.children (fan_at c.args.nodes.now n) c.args.j
    c.table_for.new.tables.items c.as_slice.result.now c.in_ok-i.i c.row_at.result.now c.as_slice.ensures.value
    (search rules) c.in_ok-i.ensures.there c.row_at.ensures in
    record {
      tables = c.in_ok-i.ensures.tables;
      list = nodes_next c.args.nodes.now c.args.route.now c.args.sites c.args.j n c.loop-node.node-index _ c.args.at.now
          c.loop-node.list c.add_nodes.new.list _ c.loop-node.invariant.list d
          (ap (λ z. row_nodes c.args.nodes.now z n) r) c.in_ok-add_nodes.ensures;
    }
