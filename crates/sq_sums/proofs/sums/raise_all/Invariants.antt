use Rattle.std.proofs.Common.{◌≡◌, drop}
use Rattle.sq_sums.specs.Sums.{raise_all}
use Rattle.sq_sums.proofs.sums.raise_all.Given as goal

abbrev pub invariant-loop-node : goal.invariant-loop-node
invariant-loop-node l = raise_all (drop l.node-index l.nodes) l.held l.sums ≡ raise_all l.nodes l.held l.fn.sums
