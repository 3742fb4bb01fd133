use Rattle.std.proofs.Common.{false}
use Rattle.sq_sums.proofs.Raising.{counted_sums, long_sums}
use Rattle.sq_sums.proofs.sums.nested_sums.Goals as goal

pub returns-clause-long : goal.returns-clause-long
returns-clause-long c = long_sums c.args.d.now c.args.nodes.now c.as_slice.result.now false c.sums_of.result
    c.as_slice.ensures c.sums_of.ensures

pub returns-clause-sums : goal.returns-clause-sums
returns-clause-sums c = counted_sums c.args.d.now c.args.nodes.now c.as_slice.result.now false c.sums_of.result
    c.as_slice.ensures c.sums_of.ensures
