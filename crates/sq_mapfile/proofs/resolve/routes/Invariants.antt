use Rattle.std.proofs.Common.{◌≡◌, ◌++◌, drop}
use Rattle.sq_mapfile.specs.Resolving.{routes_of}
use Rattle.sq_mapfile.proofs.resolve.routes.Given as goal

abbrev pub invariant-loop-item : goal.invariant-loop-item
invariant-loop-item l = l.found ++ routes_of l.table.instances.now (drop l.item-index l.items) ≡ routes_of l.table.instances.now l.items
