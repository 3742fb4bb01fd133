use Rattle.std.proofs.Common.{◌≡◌, ◌++◌, drop}
use Rattle.sq_mapfile.specs.Chosen.{ways_of}
use Rattle.sq_mapfile.proofs.tunings.ways_in.Given as goal

abbrev pub invariant-loop-item : goal.invariant-loop-item
invariant-loop-item l = l.found ++ ways_of (drop l.item-index l.items) ≡ ways_of l.items
