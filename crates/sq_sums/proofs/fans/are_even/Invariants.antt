use Rattle.std.proofs.Common.{◌≡◌, drop}
use Rattle.sq_sums.specs.Fans.{are_even}
use Rattle.sq_sums.proofs.fans.are_even.Given as goal

abbrev pub invariant-loop-node : goal.invariant-loop-node
invariant-loop-node l = are_even (drop l.node-index l.nodes) l.fans ≡ are_even l.nodes l.fans
