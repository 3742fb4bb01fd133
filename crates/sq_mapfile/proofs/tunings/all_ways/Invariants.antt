use Rattle.std.proofs.Common.{◌≡◌, ◌++◌, drop, map}
use Rattle.sq_mapfile.specs.declared.text.InstanceText.{InstanceText}
use Rattle.sq_mapfile.specs.Chosen.{ways_of}
use Rattle.sq_mapfile.proofs.tunings.all_ways.Given as goal

abbrev pub invariant-loop-x : goal.invariant-loop-x
invariant-loop-x l = l.found ++ map (λ (x : InstanceText). ways_of x.items) (drop l.x-index l.instances) ≡ map (λ (x : InstanceText). ways_of x.items) l.instances
