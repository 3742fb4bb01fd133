use Rattle.std.proofs.Common.{◌++◌, codes, refl}
use Rattle.sq_report.specs.Answers.{fault_line}
use Rattle.sq_tune_text.specs.Text.{choice_text}
use Rattle.sq_tune_text.proofs.Puts.{wrote_both, wrote_front}
use Rattle.sq_tune_text.proofs.table.put_refused.Goals as goal

pub returns-in-Ok-clause-wrote : goal.returns-in-Ok-clause-wrote
returns-in-Ok-clause-wrote g c = wrote_both _ _ _ _ _ _ (choice_text c.args.choices.now c.args.n ++ codes " ") (fault_line c.args.fault.now) c.put_fault.result c.in-Ok.ensures.wrote c.put_fault.ensures.wrote

pub returns-in-Err-clause-wrote : goal.returns-in-Err-clause-wrote
returns-in-Err-clause-wrote g c = wrote_front _ _ _ _ (choice_text c.args.choices.now c.args.n ++ codes " ") (fault_line c.args.fault.now) _ c.in-Err.end refl c.in-Err.ensures.wrote
