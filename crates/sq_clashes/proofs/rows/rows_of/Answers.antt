use Rattle.std.proofs.Common.{subst, arith}
use Rattle.sq_plan_check.proofs.Sweeping.{item_at}
use Rattle.sq_clashes.specs.Reached.{IsRowOf}
use Rattle.sq_clashes.proofs.Rowing.{rows_more}
use Rattle.sq_clashes.proofs.rows.rows_of.Goals as goal

pub loop-i-preserved : goal.loop-i-preserved
loop-i-preserved c =
    let entry = c.index-entries-i.result in
    let act = c.index-acts-i.result in
    let l = c.loop-i-test.true in
    let all = c.requires.all in
    rows_more c.args.entries.now c.args.acts.now c.loop-i.i c.loop-i.rows c.push.new.self c.in_ok-row.row entry act c.loop-i.invariant c.in_ok-push.ensures.ok (item_at c.args.entries.now c.loop-i.i entry l c.index-entries-i.is) (item_at c.args.acts.now c.loop-i.i act (omega (arith, l, all)) c.index-acts-i.is) (subst (λ own. IsRowOf own entry act c.in_ok-row.row) c.own_color.ensures c.in_ok-row.ensures)
