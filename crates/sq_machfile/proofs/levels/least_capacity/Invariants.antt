use Rattle.std.proofs.Common.{◌≡◌, map, drop}
use Rattle.sq_machfile.specs.Nodes.{at_level, capacity_of}
use Rattle.sq_machfile.specs.Machines.{least}
use Rattle.sq_machfile.proofs.Extremes.{least_with}
use Rattle.sq_machfile.proofs.levels.least_capacity.Given as goal

abbrev pub invariant-loop-node : goal.invariant-loop-node
invariant-loop-node l = least_with l.least (map capacity_of (at_level (drop l.node-index l.nodes) l.level)) ≡ least (map capacity_of (at_level l.nodes l.level))
