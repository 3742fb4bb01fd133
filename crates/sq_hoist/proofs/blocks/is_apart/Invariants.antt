use Rattle.std.proofs.Common.{◌≡◌, drop}
use Rattle.sq_spec.specs.Forms.Calls as spec
use Rattle.sq_hoist.proofs.blocks.is_apart.Given as goal

abbrev pub invariant-loop-j : goal.invariant-loop-j
invariant-loop-j l = spec.is_apart l.x l.k l.j (drop l.j l.list) ≡ spec.is_apart l.x l.k 0 l.list
