use Rattle.sq_checker.proofs.Checking.{flaw_of_plan, no_flaw, none_is_good, refused_first}
use Rattle.sq_checker.proofs.check.check_plan.Goals as goal

pub returns-in-Ok-None-clause-answers : goal.returns-in-Ok-None-clause-answers
returns-in-Ok-None-clause-answers c = no_flaw c.first_flaws_are_one.ensures c.args.file.now.plan _
    (flaw_of_plan c.args.file.now.plan _ c.plan.ensures _ c.in-Ok-None.ensures) c.in-Ok-None.field-0-is

pub returns-in-Ok-None-clause-good : goal.returns-in-Ok-None-clause-good
returns-in-Ok-None-clause-good c = none_is_good c.flawless_plans_are_good.ensures c.args.file.now.plan
    c.requires.well_formed _ (flaw_of_plan c.args.file.now.plan _ c.plan.ensures _ c.in-Ok-None.ensures) c.in-Ok-None.field-0-is

pub returns-in-Ok-Some-clause-answers : goal.returns-in-Ok-Some-clause-answers
returns-in-Ok-Some-clause-answers c = refused_first c.first_flaws_are_one.ensures c.args.file.now.plan
    c.in-Ok-Some.flaw _ (flaw_of_plan c.args.file.now.plan _ c.plan.ensures _ c.in-Ok-Some.ensures) c.in-Ok-Some.field-0-is c.refused.result c.refused.ensures
