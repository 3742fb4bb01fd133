use Rattle.sq_arrays.proofs.ReadBack.{written_back}
use Rattle.sq_arrays.proofs.laws.written_arrays_read_back.Goals as goal

pub returns : goal.returns
returns c = written_back
