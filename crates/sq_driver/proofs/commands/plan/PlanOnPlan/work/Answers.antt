use Rattle.sq_driver.proofs.Planning.{reported, written_or_lacked}
use Rattle.sq_words.specs.Words.{plan_of}
use Rattle.sq_report.specs.Reports.{report}
use Rattle.sq_driver.proofs.commands.plan.PlanOnPlan.work.Goals as goal

pub returns-clause-evaluated : goal.returns-clause-evaluated
returns-clause-evaluated g c =
    written_or_lacked (plan_of c.args.self.now.program.now c.args.self.now.mapping.now c.args.self.now.machine.now)
    _ _ _ (report c.args.resolved.now.machine.now c.args.plan)
    (reported c.args.self.now.program.now c.args.self.now.mapping.now c.args.self.now.machine.now _
    c.args.resolved.now c.args.plan c.requires) _ _ c.report_plan-ended.result c.report_plan-ended.ensures.wrote
