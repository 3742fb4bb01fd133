use Rattle.std.proofs.Common.{take}
use Rattle.std.specs.Option.{option_copied}
use Rattle.sq_mapfile.specs.Graph.{IsFirstOnCycle}
use Rattle.sq_mapfile.proofs.ranks.Ranked.first_on_cycle.Given as goal

abbrev pub invariant-loop-call : goal.invariant-loop-call
invariant-loop-call l = IsFirstOnCycle l.self.graph.calls.now (take l.call-index l.self.graph.calls.now) (option_copied l.found)
