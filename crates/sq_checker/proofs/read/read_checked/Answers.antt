use Rattle.sq_checker.proofs.Checking.{text_ends, plan_ends, accepted, means_flat}
use Rattle.sq_checker.proofs.read.read_checked.Goals as goal

pub returns-in-Err-clause-answers : goal.returns-in-Err-clause-answers
returns-in-Err-clause-answers c = text_ends c.args.text.now c.in-Err.stop c.in-Err.ensures.answers

pub check_plan-requires-clause-flat : goal.check_plan-requires-clause-flat
check_plan-requires-clause-flat c = means_flat c.args.text.now c.in-Ok.file c.in-Ok.ensures.found

pub returns-in-Ok-check_plan-clause-answers : goal.returns-in-Ok-check_plan-clause-answers
returns-in-Ok-check_plan-clause-answers c = accepted c.args.text.now c.in-Ok.file c.in-Ok.ensures.answers
    c.in-Ok.ensures.found c.in-Ok.ensures.only c.in-Ok-check_plan.ensures.answers

pub returns-in-Err-check_plan-clause-answers : goal.returns-in-Err-check_plan-clause-answers
returns-in-Err-check_plan-clause-answers c = plan_ends c.args.text.now c.in-Ok.file c.in-Ok.ensures.answers
    c.in-Ok.ensures.found c.in-Ok.ensures.only c.in-Err-check_plan.stop c.in-Err-check_plan.ensures.answers
