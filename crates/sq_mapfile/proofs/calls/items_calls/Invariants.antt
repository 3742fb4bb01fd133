use Rattle.std.proofs.Common.{◌≡◌, ◌++◌, List, drop}
use Rattle.sq_mapfile.specs.Cycles.{CallText}
use Rattle.sq_mapfile.specs.Graph.{items_calls}
use Rattle.sq_mapfile.proofs.calls.items_calls.Given as goal

abbrev pub invariant-loop-k : goal.invariant-loop-k
invariant-loop-k l = (later : List CallText)
    → l.calls.items ++ items_calls l.table.instances.now l.caller l.items.items.now l.k (drop l.k l.items.items.now) later
    ≡ l.fn.calls.items ++ items_calls l.table.instances.now l.caller l.items.items.now 0 l.items.items.now later
