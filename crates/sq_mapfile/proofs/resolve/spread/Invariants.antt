use Rattle.std.proofs.Common.{◌≡◌, drop}
use Rattle.sq_mapfile.specs.Mappings.{spread_of}
use Rattle.sq_mapfile.proofs.resolve.spread.Given as goal

abbrev pub invariant-loop-item : goal.invariant-loop-item
invariant-loop-item l = spread_of (drop l.item-index l.items) ≡ spread_of l.items
