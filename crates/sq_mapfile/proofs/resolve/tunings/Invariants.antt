use Rattle.std.proofs.Common.{◌≡◌, ◌++◌, drop}
use Rattle.sq_mapfile.specs.Mappings.{tunings_of}
use Rattle.sq_mapfile.proofs.resolve.tunings.Given as goal

abbrev pub invariant-loop-item : goal.invariant-loop-item
invariant-loop-item l = l.found ++ tunings_of (drop l.item-index l.items) ≡ tunings_of l.items
