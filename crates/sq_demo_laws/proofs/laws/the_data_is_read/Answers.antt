use Rattle.sq_demo_laws.proofs.DataRead.{data_is_read}
use Rattle.sq_demo_laws.proofs.laws.the_data_is_read.Goals as goal

pub returns : goal.returns
returns c = data_is_read c.written_arrays_read_back.ensures
