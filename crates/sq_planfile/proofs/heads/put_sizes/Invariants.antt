use Rattle.std.proofs.Common.{◌≡◌, drop}
use Rattle.std.specs.List.{flat_map}
use Rattle.sq_planfile.specs.Written.{sizes_in, firsts}
use Rattle.sq_planfile.proofs.heads.put_sizes.Given as goal

abbrev pub invariant-loop-extent : goal.invariant-loop-extent
invariant-loop-extent l = firsts l.names (flat_map (sizes_in) (drop l.extent-index l.extents)) ≡ firsts l.fn.names (flat_map (sizes_in) l.extents)
