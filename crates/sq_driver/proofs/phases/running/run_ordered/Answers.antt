use Rattle.std.proofs.Common.{refl}
use Rattle.sq_words.specs.Words.{asked}
use Rattle.sq_driver.specs.Running.{command_by}
use Rattle.sq_driver.proofs.Stopping.{stop_ends, memory_stops}
use Rattle.sq_driver.proofs.RunPhases.{no_memory_caused}
use Rattle.sq_driver.proofs.phases.running.run_ordered.Goals as goal

pub returns-in-Err-clause-ended : goal.returns-in-Err-clause-ended
returns-in-Err-clause-ended g c = λ its h. stop_ends
    (command_by its c.args.words.input.now (asked c.args.words.order) c.args.words.traced)
    _ _ _ (memory_stops (command_by its c.args.words.input.now (asked c.args.words.order) c.args.words.traced) _ _ _
    refl)
    (record { out = refl; out_faults = refl; err = refl; err_faults = refl })

pub returns-in-Err-clause-cause : goal.returns-in-Err-clause-cause
returns-in-Err-clause-cause g c = no_memory_caused _ _

pub returns-in-Err-prepared-clause-ended : goal.returns-in-Err-prepared-clause-ended
returns-in-Err-prepared-clause-ended g c = λ its h. stop_ends
    (command_by its c.args.words.input.now (asked c.args.words.order) c.args.words.traced)
    _ _ _ (memory_stops (command_by its c.args.words.input.now (asked c.args.words.order) c.args.words.traced) _ _ _
    refl)
    (record { out = refl; out_faults = refl; err = refl; err_faults = refl })

pub returns-in-Err-prepared-clause-cause : goal.returns-in-Err-prepared-clause-cause
returns-in-Err-prepared-clause-cause g c = no_memory_caused _ _
