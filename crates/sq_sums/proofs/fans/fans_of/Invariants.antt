use Rattle.std.proofs.Common.{◌≡◌, [], drop}
use Rattle.sq_sums.specs.Fans.{fans_past}
use Rattle.sq_sums.proofs.fans.fans_of.Given as goal

abbrev pub invariant-loop-node : goal.invariant-loop-node
invariant-loop-node l = fans_past (drop l.node-index l.nodes) l.fans ≡ fans_past l.nodes []
