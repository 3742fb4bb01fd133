use Rattle.sq_driver.proofs.Finishing.{done_at}
use Rattle.sq_driver.proofs.top.finish.Goals as goal

pub returns-in-Ok : goal.returns-in-Ok
returns-in-Ok g c = λ answer writing old mid same counts its puts. done_at answer old mid _ _ same counts c.args.ended
    c.in-Ok.is writing its puts
