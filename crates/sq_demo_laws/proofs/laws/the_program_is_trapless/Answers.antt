use Rattle.sq_demo_laws.proofs.WorkEnds.{program_is_trapless}
use Rattle.sq_demo_laws.proofs.laws.the_program_is_trapless.Goals as goal

pub returns : goal.returns
returns c = program_is_trapless
