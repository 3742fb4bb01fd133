use Rattle.std.proofs.Common.{◌≡◌, ◌++◌, drop, map}
use Rattle.sq_mapfile.specs.Names.{level_of}
use Rattle.sq_mapfile.proofs.table.level_numbers.Given as goal

abbrev pub invariant-loop-x : goal.invariant-loop-x
invariant-loop-x l = l.numbers.items ++ map (λ x. level_of l.levels x.level.name) (drop l.x-index l.instances) ≡ map (λ x. level_of l.levels x.level.name) l.instances
