use Rattle.std.proofs.Common.{◌≡◌, drop}
use Rattle.sq_sums.specs.Sums.{walk_at}
use Rattle.sq_sums.proofs.sums.walk_at.Given as goal

abbrev pub invariant-loop-node : goal.invariant-loop-node
invariant-loop-node l = walk_at l.on l.body l.top (drop l.node-index l.at) l.sums
    ≡ walk_at l.on l.body l.top l.at l.fn.sums
