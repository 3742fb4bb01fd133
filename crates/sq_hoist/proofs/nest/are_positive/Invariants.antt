use Rattle.std.proofs.Common.{◌≡◌, drop, nat_le}
use Rattle.std.specs.List.{list_all}
use Rattle.sq_hoist.proofs.nest.are_positive.Given as goal

abbrev pub invariant-loop-count : goal.invariant-loop-count
invariant-loop-count l = record {
  same : list_all (λ c. nat_le 1 c) (drop l.count-index l.counts) ≡ list_all (λ c. nat_le 1 c) l.fn.counts;
}
