use Rattle.sq_program_laws.proofs.Written.{plans_are_written}
use Rattle.sq_program_laws.proofs.plans_are_written.Goals as goal

pub returns : goal.returns
returns c = plans_are_written
