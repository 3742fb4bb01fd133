use Rattle.std.proofs.Common.{◌∙◌, refl, rules, w64}
use Rattle.std.proofs.lemmas.Int.{to_z-of_z}
use Rattle.sq_words.specs.Words.{demo_of}
use Rattle.sq_driver.specs.declared.outside.end.End.TheVariants.{NoMemory}
use Rattle.sq_driver.specs.Ends.{status_of}
use Rattle.sq_driver.proofs.Stopping.{memory_stops, stop_ends}
use Rattle.sq_driver.proofs.Demos.{quiet_status, demo_stopped, demo_done}
use Rattle.sq_driver.proofs.commands.demo.DemoPerform.perform.Goals as goal

pub returns-in-Err-clause-ended : goal.returns-in-Err-clause-ended
returns-in-Err-clause-ended g c = stop_ends (demo_of c.args.self.now.seed) _ _ NoMemory
    (memory_stops (demo_of c.args.self.now.seed) _ _ _ refl)
    (record { out = refl; out_faults = refl; err = refl; err_faults = refl })

pub returns-in-Ok-run_texts-clause-ended : goal.returns-in-Ok-run_texts-clause-ended
returns-in-Ok-run_texts-clause-ended g c = demo_done c.args.self.now.seed _ _ _ _ _ _ _ _ _ _ _ _ _ _ _
    c.in-Ok.ensures _ c.new-sink.ensures c.in-Ok-run_texts.ensures.ended c.write_line.result
    _ (to_z-of_z w64 c.sum.result (search rules) ∙ c.sum.ensures) c.write_line.ensures.wrote

pub returns-clause-ended : goal.returns-clause-ended
returns-clause-ended g c = demo_stopped c.args.self.now.seed _ _ _ _ _ _ _ _ _ _ _ _ c.in-Err-run_texts.end
    (quiet_status (status_of c.in-Err-run_texts.end) c.in-Err-run_texts.ensures.cause) _ c.in-Ok.ensures _ c.new-sink.ensures
    c.in-Err-run_texts.ensures.ended
