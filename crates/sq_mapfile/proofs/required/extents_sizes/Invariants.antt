use Rattle.std.proofs.Common.{◌≡◌, drop}
use Rattle.sq_mapfile.specs.Gathering as spec
use Rattle.sq_mapfile.proofs.required.extents_sizes.Given as goal

abbrev pub invariant-loop-extent : goal.invariant-loop-extent
invariant-loop-extent l = spec.extents_sizes (drop l.extent-index l.extents) l.names.keys ≡ spec.extents_sizes l.extents l.fn.names.keys
