use Rattle.std.proofs.Common.{◌≡◌, drop, nat_le}
use Rattle.std.specs.List.{list_all}
use Rattle.sq_pipe.proofs.loops.are_two.Given as goal

abbrev pub invariant-loop-count : goal.invariant-loop-count
invariant-loop-count l = record {
  same : list_all (λ n. nat_le 2 n) (drop l.count-index l.counts) ≡ list_all (λ n. nat_le 2 n) l.fn.counts;
}
