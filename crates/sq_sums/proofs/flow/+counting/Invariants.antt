use Rattle.std.proofs.Common.{◌≡◌, max, map, drop}
use Rattle.sq_sums.specs.Flows.{flow_loops, most_loops}
use Rattle.sq_sums.proofs.flow.+counting.Given as goal

abbrev pub invariant-most_loops-loop-part : goal.invariant-most_loops-loop-part
invariant-most_loops-loop-part l =
    max l.most (most_loops (map flow_loops (drop l.part-index l.parts))) ≡ most_loops (map flow_loops l.parts)
