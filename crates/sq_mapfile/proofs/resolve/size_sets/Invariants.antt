use Rattle.std.proofs.Common.{◌≡◌, ◌++◌, drop, map}
use Rattle.sq_mapfile.specs.Mappings.{size_set}
use Rattle.sq_mapfile.proofs.resolve.size_sets.Given as goal

abbrev pub invariant-loop-size : goal.invariant-loop-size
invariant-loop-size l = l.found ++ map size_set (drop l.size-index l.sizes) ≡ map size_set l.sizes
