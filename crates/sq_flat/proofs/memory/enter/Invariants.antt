use Rattle.std.proofs.Common.{◌≡◌, ◌++◌, drop}
use Rattle.sq_flat.specs.Memory as spec
use Rattle.sq_flat.proofs.memory.enter.Given as goal

abbrev pub invariant-loop-k : goal.invariant-loop-k
invariant-loop-k l = record {
  items : l.memory.items ++ spec.start_bytes l.outer l.bytes l.args l.k (drop l.k l.inner) ≡ spec.start_bytes l.outer l.bytes l.args 0 l.inner;
}
