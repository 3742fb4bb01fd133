use Rattle.std.proofs.Common.{refl, ◌∙◌}
use Rattle.sq_words.specs.Words.{fmt_of}
use Rattle.sq_driver.proofs.Stopping.{stop_ends, memory_stops}
use Rattle.sq_driver.proofs.ProgramPhases.{program_stops}
use Rattle.sq_driver.proofs.FmtEnds.{begins_fmt, fmt_means}
use Rattle.sq_driver.proofs.Ending.{done_whole, done_cut}
use Rattle.sq_driver.proofs.commands.fmt.FmtPerform.perform.Goals as goal

pub returns-in-Err-clause-ended : goal.returns-in-Err-clause-ended
returns-in-Err-clause-ended g c = stop_ends (fmt_of c.args.self.now.program.now) _ _ c.in-Err.end
    (program_stops (fmt_of c.args.self.now.program.now) c.args.self.now.program.now
    (begins_fmt c.args.self.now.program.now) _ _ c.in-Err.end c.in-Err.ensures.told)
    (record { out = refl; out_faults = refl; err = refl; err_faults = refl })

pub returns-in-Err-print_program-clause-ended : goal.returns-in-Err-print_program-clause-ended
returns-in-Err-print_program-clause-ended g c = stop_ends (fmt_of c.args.self.now.program.now)
    _ _ _ (memory_stops (fmt_of c.args.self.now.program.now) _ _ _ refl)
    (record { out = refl; out_faults = refl; err = refl; err_faults = refl })

pub returns-in-Ok-put_all-clause-ended : goal.returns-in-Ok-put_all-clause-ended
returns-in-Ok-put_all-clause-ended g c =
    done_whole (fmt_of c.args.self.now.program.now) _ _ c.as_slice.result.now
    (fmt_means c.args.self.now.program.now _ c.in-Ok.program c.in-Ok.ensures.told
    _ (c.as_slice.ensures ∙ c.in-Ok-print_program.ensures.text)) refl refl c.in-Ok-put_all.ensures.ok
    c.in-Ok-put_all.ensures.cause.ok (refl, refl)

pub returns-clause-ended : goal.returns-clause-ended
returns-clause-ended g c =
    done_cut (fmt_of c.args.self.now.program.now) _ _ c.as_slice.result.now
    (fmt_means c.args.self.now.program.now _ c.in-Ok.program c.in-Ok.ensures.told
    _ (c.as_slice.ensures ∙ c.in-Ok-print_program.ensures.text)) refl refl c.in-Err-put_all.ensures.failed
    c.in-Err-put_all.ensures.cause.failed c.in-Err-put_all.ensures.cause.later (refl, refl)
