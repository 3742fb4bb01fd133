use Rattle.std.proofs.Common.{◌≡◌, ◌++◌, drop}
use Rattle.sq_machfile.specs.Machines.{named_levels}
use Rattle.sq_machfile.proofs.levels.uneven_levels.Given as goal

abbrev pub invariant-loop-name : goal.invariant-loop-name
invariant-loop-name l = (l.levels ++ named_levels l.index l.nodes (drop l.name-index l.names) ≡ named_levels 0 l.nodes l.names) × (l.index ≡ l.name-index)
