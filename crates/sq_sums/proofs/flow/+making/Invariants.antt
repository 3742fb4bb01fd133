use Rattle.std.proofs.Common.{◌≡◌, ◌+◌, ◌*◌, ◌++◌, map, drop}
use denote.Param.Weighed.{most}
use Rattle.sq_ir.proofs.term.Term.TheLaws.{the_size}
use Rattle.sq_sums.specs.Counters.{toll_by}
use Rattle.sq_sums.specs.Flows.{flows_at, flow_of}
use Rattle.sq_sums.proofs.flow.+making.Given as goal

abbrev pub invariant-flows_of-loop-t : goal.invariant-flows_of-loop-t
invariant-flows_of-loop-t l =
    l.flows ++ flows_at (map (flow_of (toll_by l.on)) (drop l.t-index l.ts)) l.fans
    ≡ flows_at (map (flow_of (toll_by l.on)) l.ts) l.fans

abbrev pub decreases-flow_of : goal.decreases-flow_of
decreases-flow_of l = 2 * the_size l.t.now

abbrev pub decreases-flows_of : goal.decreases-flows_of
decreases-flows_of l = 2 * most the_size l.ts.now + 1

abbrev pub decreases-each_of : goal.decreases-each_of
decreases-each_of l = 2 * the_size l.body.now + 1
