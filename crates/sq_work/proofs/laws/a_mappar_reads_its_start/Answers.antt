use Rattle.sq_work.proofs.Computed.{moves_differ}
use Rattle.sq_work.proofs.laws.a_mappar_reads_its_start.Goals as goal

pub returns : goal.returns
returns c = moves_differ
