use Rattle.std.proofs.Common.{◌≡◌, drop, map}
use Rattle.sq_sums.specs.Regions.{join, join_all, region_of}
use Rattle.sq_sums.proofs.region.+surveying.Given as goal

abbrev pub invariant-region_all-loop-t : goal.invariant-region_all-loop-t
invariant-region_all-loop-t l = join l.sum (join_all (map region_of (drop l.t-index l.ts)))
    ≡ join_all (map region_of l.ts)
