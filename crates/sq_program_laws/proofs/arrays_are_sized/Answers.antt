use Rattle.sq_program_laws.proofs.Whole.{arrays_are_sized}
use Rattle.sq_program_laws.proofs.arrays_are_sized.Goals as goal

pub returns : goal.returns
returns c = arrays_are_sized
