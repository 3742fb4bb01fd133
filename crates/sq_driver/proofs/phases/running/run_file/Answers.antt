use Rattle.std.proofs.Common.{refl}
use Rattle.sq_words.specs.Words.{asked}
use Rattle.sq_driver.specs.Running.{command_by}
use Rattle.sq_driver.proofs.Stopping.{stop_ends}
use Rattle.sq_driver.proofs.Finals.{causes_after}
use Rattle.sq_driver.proofs.Running.{order_stops, ordered, ordered_told}
use Rattle.sq_driver.proofs.RunPhases.{ended_told}
use Rattle.sq_driver.proofs.phases.running.run_file.Goals as goal

pub returns-in-Err-clause-ended : goal.returns-in-Err-clause-ended
returns-in-Err-clause-ended g c = λ its h. stop_ends
    (command_by its c.args.words.input.now (asked c.args.words.order) c.args.words.traced) _ _ c.in-Err.end
    (order_stops its c.args.words.input.now (asked c.args.words.order) c.args.words.traced
    (g.F.Files.content c.args.world.now.files.now) c.args.file.now h _ c.in-Err.end c.in-Err.ensures.chosen)
    (record { out = refl; out_faults = refl; err = refl; err_faults = refl })

pub returns-in-Ok-clause-ended : goal.returns-in-Ok-clause-ended
returns-in-Ok-clause-ended g c = λ its h. ended_told
    (command_by its c.args.words.input.now (asked c.args.words.order) c.args.words.traced) _ _ _ c.run_ordered.result
    c.in-Ok.ensures.content
    (c.run_ordered.ensures.ended its
    (ordered_told its c.args.words.input.now (asked c.args.words.order) c.args.words.traced
    (g.F.Files.content c.args.world.now.files.now) _ c.args.file.now _ c.in-Ok.ensures.content
    (ordered its c.args.words.input.now (asked c.args.words.order) c.args.words.traced
    (g.F.Files.content c.args.world.now.files.now) c.args.file.now h c.in-Ok.order c.in-Ok.ensures.chosen)))

pub returns-in-Ok-clause-cause : goal.returns-in-Ok-clause-cause
returns-in-Ok-clause-cause g c = causes_after _ _ _ _ _ _ _ c.in-Ok.ensures.cause c.run_ordered.ensures.cause
