use Rattle.std.proofs.Common.{map, Err, refl, ap, ◌∙◌}
use Rattle.sq_arrays.specs.Arrays.{wanted}
use Rattle.sq_tree.specs.declared.runs.RunEnd.{RunEnd}
use Rattle.sq_words.specs.Words.{asked}
use Rattle.sq_driver.specs.Running.{command_by}
use Rattle.sq_driver.proofs.Stopping.{stop_ends, memory_stops}
use Rattle.sq_driver.proofs.RunEnds.{good_control, begun_control, opened_same, reads_fit, reads_sizes, reads_small, faults_match, control_prepared, data_ended, run_within, run_done, run_trapped, run_cut}
use Rattle.sq_driver.proofs.phases.running.run_launched.Goals as goal

pub returns-in-Err-clause-ended : goal.returns-in-Err-clause-ended
returns-in-Err-clause-ended g c = λ its h. stop_ends
    (command_by its c.args.words.input.now (asked c.args.words.order) c.args.words.traced)
    _ _ _ (memory_stops (command_by its c.args.words.input.now (asked c.args.words.order) c.args.words.traced) _ _ _
    c.in-Err.ensures.kept)
    (record { out = refl; out_faults = refl; err = refl; err_faults = refl })

pub fill_root-requires-clause-fits : goal.fill_root-requires-clause-fits
fill_root-requires-clause-fits g c = reads_fit c.launch_laws.ensures c.args.file.now c.requires.may c.args.launch
    c.requires.launch (g.B.Bank.seen c.args.world.now.bank.now) (g.B.Bank.seen c.open_bank.new.bank)
    (opened_same c.args.launch.plan.value c.args.file.now.plan _ _ c.requires.launch.plan_is c.in-Ok.ensures.opened)
    _ c.as_slice-2.ensures.value

pub fill_root-requires-clause-sizes : goal.fill_root-requires-clause-sizes
fill_root-requires-clause-sizes g c = reads_sizes c.launch_laws.ensures c.args.file.now c.requires.may c.args.launch
    c.requires.launch _ c.as_slice-2.ensures.value _ (ap (map wanted) c.as_slice.ensures.value)

pub fill_root-requires-clause-small : goal.fill_root-requires-clause-small
fill_root-requires-clause-small g c = reads_small c.launch_laws.ensures c.args.file.now c.requires.may c.args.launch
    c.requires.launch _ (ap (map wanted) c.as_slice.ensures.value)

pub fill_root-requires-clause-faults : goal.fill_root-requires-clause-faults
fill_root-requires-clause-faults g c = faults_match c.launch_laws.ensures c.args.file.now c.requires.may c.args.launch
    c.requires.launch _ (ap (map wanted) c.as_slice.ensures.value)

pub returns-in-Err-fill_root-clause-ended : goal.returns-in-Err-fill_root-clause-ended
returns-in-Err-fill_root-clause-ended g c = λ its h. data_ended c.launch_laws.ensures c.args.file.now c.requires.may c.args.launch c.requires.launch
    (g.B.Bank.seen c.args.world.now.bank.now) (g.B.Bank.seen c.open_bank.new.bank)
    (g.B.Bank.seen c.fill_root.new.bank) c.in-Ok.ensures.opened _ c.as_slice-2.ensures.value
    c.in-Err-fill_root.ensures.keeps
    its c.args.words.input.now (asked c.args.words.order) c.args.words.traced
    (record {
      told = g.F.Files.content c.args.world.now.files.now;
      out = g.S.Sink.written c.args.world.now.out.now;
      out_faults = g.S.Sink.faults c.args.world.now.out.now;
      err = g.E.Sink.written c.args.world.now.err.now;
      err_faults = g.E.Sink.faults c.args.world.now.err.now;
      bank = g.B.Bank.seen c.args.world.now.bank.now;
    }) refl c.args.order h _ (ap (map wanted) c.as_slice.ensures.value) _ refl
    c.in-Err-fill_root.end c.in-Err-fill_root.ensures.filled _ refl
    (record { out = refl; out_faults = refl; err = refl; err_faults = refl })

pub run-requires-clause-good : goal.run-requires-clause-good
run-requires-clause-good g c = good_control c.args.launch.control c.args.file.now.plan c.requires.launch.control_is
    c.requires.may.good

pub run-requires-clause-begun : goal.run-requires-clause-begun
run-requires-clause-begun g c = begun_control c.args.launch.control c.args.file.now.plan
    c.requires.launch.control_is

pub run-requires-clause-prepared : goal.run-requires-clause-prepared
run-requires-clause-prepared g c = control_prepared c.launch_laws.ensures c.args.file.now c.requires.may c.args.launch c.requires.launch
    (g.B.Bank.seen c.args.world.now.bank.now) (g.B.Bank.seen c.open_bank.new.bank)
    (g.B.Bank.seen c.fill_root.new.bank) c.in-Ok.ensures.opened _ c.as_slice-2.ensures.value
    c.in-Ok-fill_root.ensures.keeps c.args.launch.control
    c.requires.launch.control_is

pub write_root-requires-clause-within : goal.write_root-requires-clause-within
write_root-requires-clause-within g c = run_within c.launch_laws.ensures c.args.file.now c.requires.may c.args.launch c.requires.launch
    (g.B.Bank.seen c.args.world.now.bank.now) (g.B.Bank.seen c.open_bank.new.bank)
    (g.B.Bank.seen c.fill_root.new.bank) c.in-Ok.ensures.opened _ c.as_slice-2.ensures.value
    c.in-Ok-fill_root.ensures.keeps c.args.launch.control
    c.requires.launch.control_is _ c.run.ensures.ran.events c.run.ensures.ran.performed

pub returns-in-Ok-run-clause-ended : goal.returns-in-Ok-run-clause-ended
returns-in-Ok-run-clause-ended g c = λ its h. run_done c.launch_laws.ensures c.args.file.now c.requires.may c.args.launch c.requires.launch
    (g.B.Bank.seen c.args.world.now.bank.now) (g.B.Bank.seen c.open_bank.new.bank)
    (g.B.Bank.seen c.fill_root.new.bank) c.in-Ok.ensures.opened _ c.as_slice-2.ensures.value
    c.in-Ok-fill_root.ensures.keeps
    its c.args.words.input.now (asked c.args.words.order) c.args.words.traced
    (record {
      told = g.F.Files.content c.args.world.now.files.now;
      out = g.S.Sink.written c.args.world.now.out.now;
      out_faults = g.S.Sink.faults c.args.world.now.out.now;
      err = g.E.Sink.written c.args.world.now.err.now;
      err_faults = g.E.Sink.faults c.args.world.now.err.now;
      bank = g.B.Bank.seen c.args.world.now.bank.now;
    }) refl c.args.order h _ (ap (map wanted) c.as_slice.ensures.value) _ refl
    c.in-Ok-fill_root.ensures.filled _ c.run.result _ c.run.new.ctl c.args.launch.control c.requires.launch.control_is c.run.ensures.ran c.run.ensures.over
    c.run.ensures.own c.run.ensures.tells c.run.ensures.room
    (λ none. (
      ap g.E.Sink.written (c.run.ensures.untraced none).0,
      ap g.E.Sink.faults (c.run.ensures.untraced none).0,
      (c.run.ensures.untraced none).1,
    ))
    c.in-Ok-run.is c.write_root.result c.write_root.ensures.wrote

pub returns-in-Err-Trapped-clause-ended : goal.returns-in-Err-Trapped-clause-ended
returns-in-Err-Trapped-clause-ended g c = λ its h. run_trapped c.launch_laws.ensures c.args.file.now c.requires.may c.args.launch c.requires.launch
    (g.B.Bank.seen c.args.world.now.bank.now) (g.B.Bank.seen c.open_bank.new.bank)
    (g.B.Bank.seen c.fill_root.new.bank) c.in-Ok.ensures.opened _ c.as_slice-2.ensures.value
    c.in-Ok-fill_root.ensures.keeps
    its c.args.words.input.now (asked c.args.words.order) c.args.words.traced
    (record {
      told = g.F.Files.content c.args.world.now.files.now;
      out = g.S.Sink.written c.args.world.now.out.now;
      out_faults = g.S.Sink.faults c.args.world.now.out.now;
      err = g.E.Sink.written c.args.world.now.err.now;
      err_faults = g.E.Sink.faults c.args.world.now.err.now;
      bank = g.B.Bank.seen c.args.world.now.bank.now;
    }) refl c.args.order h _ (ap (map wanted) c.as_slice.ensures.value) _ refl
    c.in-Ok-fill_root.ensures.filled _ c.run.result _ c.run.new.ctl c.args.launch.control c.requires.launch.control_is c.run.ensures.ran c.run.ensures.over
    c.run.ensures.own c.run.ensures.tells c.run.ensures.room
    (λ none. (
      ap g.E.Sink.written (c.run.ensures.untraced none).0,
      ap g.E.Sink.faults (c.run.ensures.untraced none).0,
      (c.run.ensures.untraced none).1,
    ))
    c.in-Err-Trapped.trap c.in-Err-Trapped.path
    (c.in-Err-Trapped.is ∙ ap (λ (x : RunEnd). Err x) c.in-Err-Trapped.field-0-is) c.trap_at.result c.trap_at.ensures
    refl refl

pub returns-clause-ended : goal.returns-clause-ended
returns-clause-ended g c = λ its h. run_cut c.launch_laws.ensures c.args.file.now c.requires.may c.args.launch c.requires.launch
    (g.B.Bank.seen c.args.world.now.bank.now) (g.B.Bank.seen c.open_bank.new.bank)
    (g.B.Bank.seen c.fill_root.new.bank) c.in-Ok.ensures.opened _ c.as_slice-2.ensures.value
    c.in-Ok-fill_root.ensures.keeps
    its c.args.words.input.now (asked c.args.words.order) c.args.words.traced
    (record {
      told = g.F.Files.content c.args.world.now.files.now;
      out = g.S.Sink.written c.args.world.now.out.now;
      out_faults = g.S.Sink.faults c.args.world.now.out.now;
      err = g.E.Sink.written c.args.world.now.err.now;
      err_faults = g.E.Sink.faults c.args.world.now.err.now;
      bank = g.B.Bank.seen c.args.world.now.bank.now;
    }) refl c.args.order h _ (ap (map wanted) c.as_slice.ensures.value) _ refl
    c.in-Ok-fill_root.ensures.filled _ c.run.result _ c.run.new.ctl c.args.launch.control c.requires.launch.control_is c.run.ensures.ran c.run.ensures.over
    c.run.ensures.own c.run.ensures.tells c.run.ensures.room
    (λ none. (
      ap g.E.Sink.written (c.run.ensures.untraced none).0,
      ap g.E.Sink.faults (c.run.ensures.untraced none).0,
      (c.run.ensures.untraced none).1,
    ))
    (c.in-Err-SinkFault.is ∙ ap (λ (x : RunEnd). Err x) c.in-Err-SinkFault.field-0-is) c.run.ensures.later refl refl
