use Rattle.std.proofs.Common.{refl}
use Rattle.sq_words.specs.declared.words.Kind.TheVariants.{Exec}
use Rattle.sq_words.specs.Words.{asked, exec_of, no_files, plan_file, with_file}
use Rattle.sq_driver.proofs.ExecWork.{exec_works, file_stops}
use Rattle.sq_driver.proofs.Finals.{causes_after}
use Rattle.sq_driver.proofs.Running.{work_told}
use Rattle.sq_driver.proofs.RunPhases.{ended_told}
use Rattle.sq_driver.proofs.Stopping.{stop_ends}
use Rattle.sq_driver.proofs.commands.exec.ExecPerform.perform.Goals as goal

pub returns-in-Err-clause-ended : goal.returns-in-Err-clause-ended
returns-in-Err-clause-ended g c = stop_ends
    (exec_of c.args.self.now.plan.now c.args.self.now.input.now (asked c.args.self.now.order) c.args.self.now.traced)
    _ _ c.in-Err.end
    (file_stops c.args.self.now.plan.now c.args.self.now.input.now (asked c.args.self.now.order)
    c.args.self.now.traced (g.F.Files.content c.args.world.now.files.now) c.in-Err.end c.in-Err.ensures.told _)
    (record { out = refl; out_faults = refl; err = refl; err_faults = refl })

pub run_file-requires : goal.run_file-requires
run_file-requires g c = c.in-Ok.ensures.may

pub returns-clause-ended : goal.returns-clause-ended
returns-clause-ended g c = ended_told
    (exec_of c.args.self.now.plan.now c.args.self.now.input.now (asked c.args.self.now.order) c.args.self.now.traced)
    _ _ _ c.run_file.result c.in-Ok.ensures.content
    (c.run_file.ensures.ended (record { kind = Exec; files = with_file plan_file c.args.self.now.plan.now no_files })
    (work_told (record { kind = Exec; files = with_file plan_file c.args.self.now.plan.now no_files })
    c.args.self.now.input.now (asked c.args.self.now.order) c.args.self.now.traced
    (g.F.Files.content c.args.world.now.files.now) _ c.in-Ok.file c.in-Ok.ensures.content
    (exec_works c.args.self.now.plan.now c.args.self.now.input.now (asked c.args.self.now.order)
    c.args.self.now.traced (g.F.Files.content c.args.world.now.files.now) c.exec_laws.ensures c.in-Ok.file
    c.in-Ok.ensures.may c.in-Ok.ensures.told)))

pub returns-clause-cause : goal.returns-clause-cause
returns-clause-cause g c = causes_after _ _ _ _ _ _ _ c.in-Ok.ensures.cause c.run_file.ensures.cause
