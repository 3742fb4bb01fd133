use Rattle.sq_driver.proofs.Finishing.{sink_at, line_ends, line_fails}
use Rattle.sq_driver.proofs.top.finish_end.Goals as goal

pub returns-in-SinkFault : goal.returns-in-SinkFault
returns-in-SinkFault g c = λ answer writing old mid same counts its puts. sink_at answer old mid _ _ same counts
    c.args.end c.in-SinkFault.is writing its puts

pub returns-in-Ok : goal.returns-in-Ok
returns-in-Ok g c = λ answer writing old mid same counts its puts. line_ends answer old mid _ _ _ _ same counts
    c.args.end c.in_default.not-SinkFault writing c.status.result c.status.ensures c.in-Ok.ensures.wrote.ok its puts

pub returns : goal.returns
returns g c = λ answer writing old mid same counts its puts. line_fails answer old mid _ _ _ _ same counts c.args.end
    c.in_default.not-SinkFault writing c.in-Err.ensures.wrote.failed c.in-Err.ensures.later its puts
