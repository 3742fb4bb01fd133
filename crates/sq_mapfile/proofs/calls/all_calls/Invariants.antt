use Rattle.std.proofs.Common.{◌≡◌, ◌++◌, drop}
use Rattle.sq_mapfile.specs.Graph.{calls_from, gathered}
use Rattle.sq_mapfile.proofs.calls.all_calls.Given as goal

abbrev pub invariant-loop-i : goal.invariant-loop-i
invariant-loop-i l = l.calls.items ++ calls_from l.table.instances.now l.i (drop l.i l.table.instances.now) ≡ gathered l.table.instances.now
