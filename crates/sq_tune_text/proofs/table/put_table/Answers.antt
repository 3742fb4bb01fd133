use Rattle.std.proofs.Common.{refl}
use Rattle.sq_report.specs.Reports.{numbered}
use Rattle.sq_tune_text.specs.Text.{choice_line, best_line}
use Rattle.sq_tune_text.proofs.Puts.{wrote_both, wrote_front}
use Rattle.sq_tune_text.proofs.table.put_table.Goals as goal

pub returns-in-Ok-clause-wrote : goal.returns-in-Ok-clause-wrote
returns-in-Ok-clause-wrote g c = wrote_both _ _ _ _ _ _ (numbered (choice_line c.args.choices.now) 0 c.args.table.now.rows) (best_line c.args.table.now.rows c.args.table.now.best) c.put_best.result
    (rw c.as_slice-rows.ensures at c.in-Ok.ensures.wrote) (rw c.as_slice-rows.ensures at c.put_best.ensures.wrote)

pub returns-in-Err-clause-wrote : goal.returns-in-Err-clause-wrote
returns-in-Err-clause-wrote g c = wrote_front _ _ _ _ (numbered (choice_line c.args.choices.now) 0 c.args.table.now.rows) (best_line c.args.table.now.rows c.args.table.now.best) _ c.in-Err.end refl
    (rw c.as_slice-rows.ensures at c.in-Err.ensures.wrote)
