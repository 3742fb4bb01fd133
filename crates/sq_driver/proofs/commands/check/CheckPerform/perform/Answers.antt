use Rattle.std.proofs.Common.{codes, refl}
use Rattle.sq_words.specs.Words.{check_of}
use Rattle.sq_driver.proofs.Stopping.{stop_ends, memory_stops}
use Rattle.sq_driver.proofs.ProgramPhases.{program_stops}
use Rattle.sq_driver.proofs.CheckEnds.{begins_check, types_stop, check_means}
use Rattle.sq_driver.proofs.Ending.{done_whole, done_cut}
use Rattle.sq_driver.proofs.commands.check.CheckPerform.perform.Goals as goal

pub returns-in-Err-clause-ended : goal.returns-in-Err-clause-ended
returns-in-Err-clause-ended g c = stop_ends (check_of c.args.self.now.program.now) _ _ c.in-Err.end
    (program_stops (check_of c.args.self.now.program.now) c.args.self.now.program.now
    (begins_check c.args.self.now.program.now) _ _ c.in-Err.end c.in-Err.ensures.told)
    (record { out = refl; out_faults = refl; err = refl; err_faults = refl })

pub returns-in-Err-Refused-clause-ended : goal.returns-in-Err-Refused-clause-ended
returns-in-Err-Refused-clause-ended g c = stop_ends (check_of c.args.self.now.program.now)
    _ _ _ (types_stop c.args.self.now.program.now _ c.in-Ok.program c.in-Ok.ensures.told _ c.in-Err-Refused.field-0
    c.in-Err-Refused.fault c.in-Err-Refused.field-0-is c.in-Err-Refused.ensures.faults)
    (record { out = refl; out_faults = refl; err = refl; err_faults = refl })

pub returns-in-Err-NoMemory-clause-ended : goal.returns-in-Err-NoMemory-clause-ended
returns-in-Err-NoMemory-clause-ended g c = stop_ends (check_of c.args.self.now.program.now)
    _ _ _ (memory_stops (check_of c.args.self.now.program.now) _ _ _ refl)
    (record { out = refl; out_faults = refl; err = refl; err_faults = refl })

pub returns-in-Ok-put_all-clause-ended : goal.returns-in-Ok-put_all-clause-ended
returns-in-Ok-put_all-clause-ended g c =
    done_whole (check_of c.args.self.now.program.now) _ _ (codes "ok\n")
    (check_means c.args.self.now.program.now _ c.in-Ok.program c.in-Ok.ensures.told c.in-Ok-check.ensures.faults)
    refl refl c.in-Ok-put_all.ensures.ok c.in-Ok-put_all.ensures.cause.ok (refl, refl)

pub returns-in-Err-put_all-clause-ended : goal.returns-in-Err-put_all-clause-ended
returns-in-Err-put_all-clause-ended g c =
    done_cut (check_of c.args.self.now.program.now) _ _ (codes "ok\n")
    (check_means c.args.self.now.program.now _ c.in-Ok.program c.in-Ok.ensures.told c.in-Ok-check.ensures.faults)
    refl refl c.in-Err-put_all.ensures.failed c.in-Err-put_all.ensures.cause.failed
    c.in-Err-put_all.ensures.cause.later (refl, refl)
