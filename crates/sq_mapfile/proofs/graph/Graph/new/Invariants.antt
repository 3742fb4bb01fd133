use Rattle.std.proofs.Common.{◌≡◌, ℕ, ◌<◌, ◌++◌, [], length, drop, get_or}
use Rattle.sq_mapfile.specs.Graph.{callees_of}
use Rattle.sq_mapfile.proofs.graph.Graph.new.Given as goal

abbrev pub invariant-loop-call : goal.invariant-loop-call
invariant-loop-call l = record {
  count : length l.lists.items ≡ l.list.count;
  callees : (a : ℕ) → a < l.list.count → get_or l.lists.items a [] ++ callees_of (drop l.call-index l.calls) a ≡ callees_of l.calls a;
}
