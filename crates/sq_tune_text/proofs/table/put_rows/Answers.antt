use Rattle.std.proofs.Common.{◌++◌, ◌+◌, drop, Ok, Err}
use Rattle.sq_report.specs.Reports.{numbered}
use Rattle.sq_tune_text.specs.Text.{choice_line}
use Rattle.sq_tune_text.proofs.Puts.{wrote_both, wrote_front, one_more}
use Rattle.sq_tune_text.proofs.table.put_rows.Goals as goal

pub loop-n-preserved : goal.loop-n-preserved
loop-n-preserved g c =
    let f = choice_line c.args.choices.now in
    let x = c.index-rows-n.result in
    let n = c.loop-n.n in
    let inv = c.loop-n.invariant in (
      inv.0 ++ f n x,
      one_more f inv.0 c.args.rows.now n x c.loop-n-test.true c.index-rows-n.is inv.1,
      wrote_both _ _ _ _ _ _ inv.0 (f n x) (Ok tt) inv.2 c.in-Ok.ensures.wrote,
    )

pub returns-in-Err-clause-wrote : goal.returns-in-Err-clause-wrote
returns-in-Err-clause-wrote g c =
    let f = choice_line c.args.choices.now in
    let x = c.index-rows-n.result in
    let n = c.loop-n.n in
    let inv = c.loop-n.invariant in
    wrote_front _ _ _ _ (inv.0 ++ f n x) (numbered f (n + 1) (drop (n + 1) c.args.rows.now)) _ c.in-Err.end (one_more f inv.0 c.args.rows.now n x c.loop-n-test.true c.index-rows-n.is inv.1)
    (wrote_both _ _ _ _ _ _ inv.0 (f n x) (Err c.in-Err.end) inv.2 c.in-Err.ensures.wrote)
