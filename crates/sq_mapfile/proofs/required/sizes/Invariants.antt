use Rattle.std.proofs.Common.{◌≡◌, [], drop}
use Rattle.sq_mapfile.specs.Gathering as spec
use Rattle.sq_mapfile.proofs.required.sizes.Given as goal

abbrev pub invariant-loop-p : goal.invariant-loop-p
invariant-loop-p l = spec.params_sizes (drop l.p-index l.params) l.names.keys ≡ spec.params_sizes l.params []
