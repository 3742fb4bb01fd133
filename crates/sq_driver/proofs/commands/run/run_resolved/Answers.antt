use Rattle.std.proofs.Common.{refl}
use Rattle.sq_words.specs.Words.{asked, run_of}
use Rattle.sq_driver.proofs.Stopping.{stop_ends}
use Rattle.sq_driver.proofs.RunPhases.{capacity_stop}
use Rattle.sq_driver.proofs.commands.run.run_resolved.Goals as goal

pub returns-in-Err-clause-ended : goal.returns-in-Err-clause-ended
returns-in-Err-clause-ended g c = stop_ends
    (run_of c.args.words.now.program.now c.args.words.now.mapping.now c.args.words.now.machine.now
    c.args.words.now.input.now (asked c.args.words.now.order) c.args.words.now.traced) _ _ c.in-Err.end
    (capacity_stop c.args.words.now.program.now c.args.words.now.mapping.now c.args.words.now.machine.now
    c.args.words.now.input.now (asked c.args.words.now.order) c.args.words.now.traced
    (g.F.Files.content c.args.world.now.files.now) c.args.resolved.now.typed.now c.args.resolved.now.machine.now
    c.args.resolved.now.mapping.now c.requires.holds c.args.resolved.now c.requires.forms c.requires.free
    c.in-Err.end c.in-Err.ensures.refused _)
    (record { out = refl; out_faults = refl; err = refl; err_faults = refl })
