use Rattle.std.proofs.Common.{refl, ⊎_elim}
use Rattle.sq_driver.proofs.Answering.{answered_of}
use Rattle.sq_driver.proofs.CompiledFiles.{compiled_are_read}
use Rattle.sq_driver.proofs.CutTraces.{cut_traces_begin}
use Rattle.sq_driver.proofs.DemoRow.{demo_row}
use Rattle.sq_driver.proofs.OnePlan.{one_plan}
use Rattle.sq_driver.proofs.Rows.{usage_row, no_command_row, absent_row, file_fault_row, sink_fault_row, no_sink_fault_row, later_row, undisturbed_row, no_memory_row, complete_row, only_row}
use Rattle.sq_driver.proofs.top.sq_top.Goals as goal

pub returns-clause-answered : goal.returns-clause-answered
returns-clause-answered g c = answered_of c.execute-ended.ensures.executed c.execute-ended.ensures.cause refl
    (λ answer writing its puts. c.finish.ensures answer writing _ _ refl refl its puts)

pub returns-clause-usage : goal.returns-clause-usage
returns-clause-usage g c = usage_row (answered_of c.execute-ended.ensures.executed c.execute-ended.ensures.cause refl
    (λ answer writing its puts. c.finish.ensures answer writing _ _ refl refl its puts))

pub returns-clause-no_command : goal.returns-clause-no_command
returns-clause-no_command g c = no_command_row
    (answered_of c.execute-ended.ensures.executed c.execute-ended.ensures.cause refl
    (λ answer writing its puts. c.finish.ensures answer writing _ _ refl refl its puts))

pub returns-clause-absent : goal.returns-clause-absent
returns-clause-absent g c = absent_row
    (answered_of c.execute-ended.ensures.executed c.execute-ended.ensures.cause refl
    (λ answer writing its puts. c.finish.ensures answer writing _ _ refl refl its puts))

pub returns-clause-file_fault : goal.returns-clause-file_fault
returns-clause-file_fault g c = file_fault_row
    (answered_of c.execute-ended.ensures.executed c.execute-ended.ensures.cause refl
    (λ answer writing its puts. c.finish.ensures answer writing _ _ refl refl its puts))

pub returns-clause-sink_fault : goal.returns-clause-sink_fault
returns-clause-sink_fault g c = sink_fault_row
    (answered_of c.execute-ended.ensures.executed c.execute-ended.ensures.cause refl
    (λ answer writing its puts. c.finish.ensures answer writing _ _ refl refl its puts))

pub returns-clause-no_sink_fault : goal.returns-clause-no_sink_fault
returns-clause-no_sink_fault g c = no_sink_fault_row
    (answered_of c.execute-ended.ensures.executed c.execute-ended.ensures.cause refl
    (λ answer writing its puts. c.finish.ensures answer writing _ _ refl refl its puts))

pub returns-clause-undisturbed : goal.returns-clause-undisturbed
returns-clause-undisturbed g c = undisturbed_row
    (answered_of c.execute-ended.ensures.executed c.execute-ended.ensures.cause refl
    (λ answer writing its puts. c.finish.ensures answer writing _ _ refl refl its puts))

pub returns-clause-no_memory : goal.returns-clause-no_memory
returns-clause-no_memory g c = no_memory_row
    (answered_of c.execute-ended.ensures.executed c.execute-ended.ensures.cause refl
    (λ answer writing its puts. c.finish.ensures answer writing _ _ refl refl its puts))

pub returns-clause-only : goal.returns-clause-only
returns-clause-only g c = only_row (answered_of c.execute-ended.ensures.executed c.execute-ended.ensures.cause refl
    (λ answer writing its puts. c.finish.ensures answer writing _ _ refl refl its puts))

pub returns-clause-complete : goal.returns-clause-complete
returns-clause-complete g c = λ no_read no_out no_err.
    let answered = answered_of c.execute-ended.ensures.executed c.execute-ended.ensures.cause refl
    (λ answer writing its puts. c.finish.ensures answer writing _ _ refl refl its puts) in
    complete_row answered (λ fault. no_read (file_fault_row answered fault).0)
    (λ sink. ⊎_elim (λ o. no_out o.0) (λ e. no_err e.0) (sink_fault_row answered sink))

pub returns-clause-out_later : goal.returns-clause-out_later
returns-clause-out_later g c =
    (later_row (answered_of c.execute-ended.ensures.executed c.execute-ended.ensures.cause refl
    (λ answer writing its puts. c.finish.ensures answer writing _ _ refl refl its puts))).0

pub returns-clause-err_later : goal.returns-clause-err_later
returns-clause-err_later g c =
    (later_row (answered_of c.execute-ended.ensures.executed c.execute-ended.ensures.cause refl
    (λ answer writing its puts. c.finish.ensures answer writing _ _ refl refl its puts))).1

pub returns-clause-demo : goal.returns-clause-demo
returns-clause-demo g c = demo_row c.the_demo_is_accepted.ensures
    (answered_of c.execute-ended.ensures.executed c.execute-ended.ensures.cause refl
    (λ answer writing its puts. c.finish.ensures answer writing _ _ refl refl its puts))

pub returns-clause-one_plan : goal.returns-clause-one_plan
returns-clause-one_plan g c = one_plan c.plans_are_one.ensures

pub returns-clause-compiled : goal.returns-clause-compiled
returns-clause-compiled g c = compiled_are_read c.compiled_files_are_read_again.ensures

pub returns-clause-cut : goal.returns-clause-cut
returns-clause-cut g c = cut_traces_begin c.runs_under_orders_go_on.ensures
