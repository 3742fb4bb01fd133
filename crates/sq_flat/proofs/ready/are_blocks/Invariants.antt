use Rattle.std.proofs.Common.{◌≡◌, drop}
use Rattle.sq_flat.specs.Checked as spec
use Rattle.sq_flat.proofs.ready.are_blocks.Given as goal

abbrev pub invariant-loop-k : goal.invariant-loop-k
invariant-loop-k l = spec.are_blocks l.outer l.inner l.k (drop l.k l.args) ≡ spec.are_blocks l.outer l.inner 0 l.args
