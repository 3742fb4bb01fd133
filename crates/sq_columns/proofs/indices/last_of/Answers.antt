use Rattle.sq_columns.proofs.Inside.{last_there}
use Rattle.sq_columns.proofs.indices.last_of.Goals as goal

pub returns : goal.returns
returns c =
    let start = c.requires.first in
    let step = c.requires.step in
    last_there c.args.first c.args.step c.args.n c.ranges.first c.ranges.step c.requires.few start.0 start.1 step.0 step.1
