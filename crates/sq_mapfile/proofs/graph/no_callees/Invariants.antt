use Rattle.std.proofs.Common.{◌≡◌, [], replicate}
use Rattle.sq_mapfile.proofs.graph.no_callees.Given as goal

abbrev pub invariant-loop-made : goal.invariant-loop-made
invariant-loop-made l = l.lists.items ≡ replicate l._made []
