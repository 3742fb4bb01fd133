use Rattle.std.proofs.Common.{sym, subst}
use Rattle.sq_ir.specs.DraftLeaves.{leaves_of}
use Rattle.sq_ir.specs.Plans.{IsWellFormed}
use Rattle.sq_ir.specs.declared.plan.Plan.{Plan}
use Rattle.sq_words.specs.Words.{compile_of}
use Rattle.sq_driver.proofs.Evaluations.{no_memory}
use Rattle.sq_driver.proofs.FilePhase.{file_ends}
use Rattle.sq_driver.proofs.commands.compile.CompileOnPlan.work.Goals as goal

pub file_of-requires : goal.file_of-requires
file_of-requires g c = c.requires.plan_is

pub write_file-requires : goal.write_file-requires
write_file-requires g c = subst (λ (p : Plan). IsWellFormed (leaves_of p.draft) p) (sym c.in-Ok.ensures.plan_is)
    c.requires.plan_is.good.good.well_formed

pub returns-in-Err-clause-evaluated : goal.returns-in-Err-clause-evaluated
returns-in-Err-clause-evaluated g c = no_memory
    (compile_of c.args.self.now.program.now c.args.self.now.mapping.now c.args.self.now.machine.now) _ _ _

pub returns-in-Ok-clause-evaluated : goal.returns-in-Ok-clause-evaluated
returns-in-Ok-clause-evaluated g c =
    file_ends c.args.self.now.program.now c.args.self.now.mapping.now c.args.self.now.machine.now _
    c.args.resolved.now c.args.plan c.requires c.in-Ok.file c.in-Ok.ensures c.plans_are_one.ensures _ _ _ _
    c.write_file.result c.write_file.ensures.files
