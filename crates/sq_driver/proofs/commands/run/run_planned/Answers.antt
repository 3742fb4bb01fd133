use Rattle.std.proofs.Common.{refl}
use Rattle.sq_words.specs.declared.words.Kind.TheVariants.{Run}
use Rattle.sq_words.specs.Words.{asked, run_of, source_files}
use Rattle.sq_driver.proofs.Stopping.{stop_ends, memory_stops}
use Rattle.sq_driver.proofs.RunPhases.{no_memory_caused}
use Rattle.sq_driver.proofs.RunWork.{run_may, run_works}
use Rattle.sq_driver.proofs.commands.run.run_planned.Goals as goal

pub returns-in-Err-clause-ended : goal.returns-in-Err-clause-ended
returns-in-Err-clause-ended g c = stop_ends
    (run_of c.args.words.now.program.now c.args.words.now.mapping.now c.args.words.now.machine.now
    c.args.words.now.input.now (asked c.args.words.now.order) c.args.words.now.traced) _ _ _
    (memory_stops (run_of c.args.words.now.program.now c.args.words.now.mapping.now c.args.words.now.machine.now
    c.args.words.now.input.now (asked c.args.words.now.order) c.args.words.now.traced) _ _ _ refl)
    (record { out = refl; out_faults = refl; err = refl; err_faults = refl })

pub returns-in-Err-clause-cause : goal.returns-in-Err-clause-cause
returns-in-Err-clause-cause g c = no_memory_caused _ _

pub run_file-requires : goal.run_file-requires
run_file-requires g c = run_may c.run_laws.ensures c.args.resolved.now c.args.plan c.requires.its c.in-Ok.file
    c.in-Ok.ensures c.args.words.now.program.now c.args.words.now.mapping.now c.args.words.now.machine.now
    c.args.words.now.input.now (asked c.args.words.now.order) c.args.words.now.traced
    (g.F.Files.content c.args.world.now.files.now) c.requires.forms c.requires.holds c.requires.free c.requires.fits

pub returns-clause-ended : goal.returns-clause-ended
returns-clause-ended g c = c.run_file.ensures.ended
    (record {
      kind = Run;
      files = source_files c.args.words.now.program.now c.args.words.now.mapping.now c.args.words.now.machine.now;
    })
    (run_works c.run_laws.ensures c.args.resolved.now c.args.plan c.requires.its c.in-Ok.file c.in-Ok.ensures
    c.args.words.now.program.now c.args.words.now.mapping.now c.args.words.now.machine.now
    c.args.words.now.input.now (asked c.args.words.now.order) c.args.words.now.traced
    (g.F.Files.content c.args.world.now.files.now) c.requires.forms c.requires.holds c.requires.free c.requires.fits)
