use Rattle.std.proofs.Common.{◌≡◌, drop}
use Rattle.std.specs.List.{flat_map}
use Rattle.sq_planfile.specs.Written.{sizes_in}
use Rattle.sq_planheads.specs.Leaves.{with_names}
use Rattle.sq_planheads.proofs.names.put_all_sizes.Given as goal

abbrev pub invariant-loop-param : goal.invariant-loop-param
invariant-loop-param l = with_names l.table (flat_map (λ p. flat_map sizes_in p.extents) (drop l.param-index l.params)) ≡ with_names l.fn.table (flat_map (λ p. flat_map sizes_in p.extents) l.params)
