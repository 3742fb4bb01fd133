use Rattle.std.proofs.Common.{◌≡◌, ◌++◌, drop, map}
use Rattle.sq_mapfile.specs.Resolving.{instance_with}
use Rattle.sq_mapfile.proofs.resolve.instances.Given as goal

abbrev pub invariant-loop-text : goal.invariant-loop-text
invariant-loop-text l = l.found ++ map (instance_with l.table.levels.now l.table.instances.now) (drop l.text-index l.text-items) ≡ map (instance_with l.table.levels.now l.table.instances.now) l.table.instances.now
