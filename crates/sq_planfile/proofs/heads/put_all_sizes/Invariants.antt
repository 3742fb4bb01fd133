use Rattle.std.proofs.Common.{◌≡◌, drop}
use Rattle.std.specs.List.{flat_map}
use Rattle.sq_planfile.specs.Written.{sizes_in, firsts}
use Rattle.sq_planfile.proofs.heads.put_all_sizes.Given as goal

abbrev pub invariant-loop-param : goal.invariant-loop-param
invariant-loop-param l = firsts l.names (flat_map (λ p. flat_map sizes_in p.extents) (drop l.param-index l.params)) ≡ firsts l.fn.names (flat_map (λ p. flat_map sizes_in p.extents) l.params)
