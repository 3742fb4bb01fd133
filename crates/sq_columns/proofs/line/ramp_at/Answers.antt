use Rattle.sq_columns.proofs.Wrapping.{ramp_there}
use Rattle.sq_columns.proofs.line.ramp_at.Goals as goal

pub returns : goal.returns
returns c = ramp_there c.args.first c.args.step c.args.j c.ranges.first c.ranges.step c.requires
