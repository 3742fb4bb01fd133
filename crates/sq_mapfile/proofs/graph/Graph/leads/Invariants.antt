use Rattle.std.proofs.Common.{length}
use Rattle.sq_mapfile.proofs.Leading.{Explored}
use Rattle.sq_mapfile.proofs.graph.Graph.leads.Given as goal

abbrev pub invariant-loop-i : goal.invariant-loop-i
invariant-loop-i l = Explored l.self.calls.now (length l.self.lists.items) l.from l.seen.keys l.i
