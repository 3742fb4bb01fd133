use Rattle.std.proofs.Common.{◌≡◌, drop}
use Rattle.sq_mapfile.specs.Graph.{with_all, callees_of}
use Rattle.sq_mapfile.proofs.graph.Graph.see.Given as goal

abbrev pub invariant-loop-callee : goal.invariant-loop-callee
invariant-loop-callee l = with_all l.seen.keys (drop l.callee-index l.callee-items) ≡ with_all l.fn.seen.keys (callees_of l.self.calls.now l.at)
