use Rattle.sq_launch.proofs.Texting.{wrote_behind, wrote_none}
use Rattle.sq_launch.proofs.texts.put_next.Goals as goal

pub returns-in-Ok-clause-wrote : goal.returns-in-Ok-clause-wrote
returns-in-Ok-clause-wrote g c = λ start faults text first. wrote_behind start _ _ faults _ _ text _ c.args.so_far
    c.put_written.result c.in-Ok.is first c.put_written.ensures.wrote

pub returns-in-Err-clause-wrote : goal.returns-in-Err-clause-wrote
returns-in-Err-clause-wrote g c = λ start faults text first. wrote_none start _ faults _ text _ c.args.so_far
    c.in-Err.failed c.in-Err.is first
