use Rattle.std.proofs.Common.{◌≡◌, drop}
use Rattle.std.specs.List.{flat_map}
use Rattle.sq_planfile.specs.Written.{sizes_in}
use Rattle.sq_planheads.specs.Leaves.{with_names}
use Rattle.sq_planheads.proofs.names.put_sizes.Given as goal

abbrev pub invariant-loop-extent : goal.invariant-loop-extent
invariant-loop-extent l = with_names l.table (flat_map sizes_in (drop l.extent-index l.extents)) ≡ with_names l.fn.table (flat_map sizes_in l.extents)
