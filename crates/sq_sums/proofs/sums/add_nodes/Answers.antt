use Rattle.std.proofs.Common.{rules, ◌≡◌, true, false, get_or, refl}
use Rattle.sq_sums.proofs.Gathering.{marked_next, marked_none}
use Rattle.sq_sums.proofs.sums.add_nodes.Goals.{then-is_marked+in_ok-push, else-is_marked}
use Rattle.sq_sums.proofs.sums.add_nodes.Goals as goal

pub loop-way-preserved : goal.loop-way-preserved
loop-way-preserved c = elim c.if-is_marked.branch [
  | then-is_marked+in_ok-push w ↦
      let e : get_or c.args.row.now c.loop-way.way false ≡ true = search rules in
      marked_next c.args.nodes.now c.args.row.now c.args.node c.loop-way.list c.if-is_marked.list _ _ c.loop-way.way _
      w.node_by.result c.loop-way-test.true refl e w.node_by.ensures (search rules) c.loop-way.invariant
  | else-is_marked w ↦
      let e : get_or c.args.row.now c.loop-way.way false ≡ false = search rules in
      marked_none c.args.nodes.now c.args.row.now c.args.node c.loop-way.list c.if-is_marked.list _ _ c.loop-way.way _
      c.loop-way-test.true refl e (search rules) c.loop-way.invariant
]
