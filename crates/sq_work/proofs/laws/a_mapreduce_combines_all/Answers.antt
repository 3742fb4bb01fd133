use Rattle.sq_work.proofs.Computed.{sums_combine}
use Rattle.sq_work.proofs.laws.a_mapreduce_combines_all.Goals as goal

pub returns : goal.returns
returns c = sums_combine
