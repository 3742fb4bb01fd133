use Rattle.sq_columns.proofs.Wrapping.{moved_there}
use Rattle.sq_columns.proofs.indices.further.Goals as goal

pub returns : goal.returns
returns c = moved_there c.args.by c.args.spot c.args.index c.ranges.by c.ranges.spot c.ranges.index
