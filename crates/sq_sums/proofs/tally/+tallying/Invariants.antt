use Rattle.std.proofs.Common.{◌≡◌, ◌+◌, ◌*◌, ◌-◌, ◌<◌, ◌^◌, drop, map}
use denote.Param.Weighed.{most}
use Rattle.sq_ir.proofs.term.Term.TheLaws.{the_size}
use Rattle.sq_nests.specs.Stacks.{capped}
use Rattle.sq_sums.specs.Tops.{stand_of, at_turn}
use Rattle.sq_sums.specs.Tolls.{all_sum, each_sum}
use Rattle.sq_sums.specs.Counters.{sum_on}
use Rattle.sq_sums.proofs.tally.+tallying.Given as goal

abbrev pub invariant-tally_all-loop-t : goal.invariant-tally_all-loop-t
invariant-tally_all-loop-t l = (l.total < 2 ^ 64)
    × (capped (l.total + all_sum (map (sum_on l.on) (drop l.t-index l.ts)) (stand_of l.at))
    ≡ capped (all_sum (map (sum_on l.on) l.ts) (stand_of l.at)))

abbrev pub invariant-tally_turns-loop-i : goal.invariant-tally_turns-loop-i
invariant-tally_turns-loop-i l = (l.total < 2 ^ 64)
    × (capped (l.total + each_sum (l.n - l.i) (λ t. sum_on l.on l.body (at_turn (stand_of l.at) t)) l.i)
    ≡ capped (each_sum l.n (λ t. sum_on l.on l.body (at_turn (stand_of l.at) t)) 0))

abbrev pub decreases-tally : goal.decreases-tally
decreases-tally l = 3 * the_size l.t.now

abbrev pub decreases-tally_all : goal.decreases-tally_all
decreases-tally_all l = 3 * most the_size l.ts.now + 1

abbrev pub decreases-tally_arm : goal.decreases-tally_arm
decreases-tally_arm l = 3 * most the_size l.arms.now + 1

abbrev pub decreases-tally_turns : goal.decreases-tally_turns
decreases-tally_turns l = 3 * the_size l.body.now + 1

abbrev pub decreases-tally_scope : goal.decreases-tally_scope
decreases-tally_scope l = 3 * the_size l.body.now + 2

abbrev pub decreases-tally_child : goal.decreases-tally_child
decreases-tally_child l = 3 * the_size l.body.now + 1
