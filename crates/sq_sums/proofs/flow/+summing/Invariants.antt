use Rattle.std.proofs.Common.{◌≡◌, ◌+◌, ◌-◌, ◌<◌, ◌^◌, ◌∷◌, drop, map}
use Rattle.sq_term_nums.specs.Words.{turns_of}
use Rattle.sq_nests.specs.Stacks.{capped}
use Rattle.sq_sums.specs.Tolls.{all_sum, each_sum}
use Rattle.sq_sums.specs.Flows.{flow_sum}
use Rattle.sq_sums.proofs.flow.+summing.Given as goal

abbrev pub invariant-sum_all-loop-part : goal.invariant-sum_all-loop-part
invariant-sum_all-loop-part l = (l.total < 2 ^ 64)
    × (capped (l.total + all_sum (map flow_sum (drop l.part-index l.parts)) (turns_of l.at.turns.now))
    ≡ capped (all_sum (map flow_sum l.parts) (turns_of l.at.turns.now)))

abbrev pub invariant-sum_each-loop-i : goal.invariant-sum_each-loop-i
invariant-sum_each-loop-i l = (l.total < 2 ^ 64)
    × (capped (l.total + each_sum (l.n - l.i) (λ t. flow_sum l.inside (t ∷ turns_of l.at.turns.now)) l.i)
    ≡ capped (each_sum l.n (λ t. flow_sum l.inside (t ∷ turns_of l.at.turns.now)) 0))
