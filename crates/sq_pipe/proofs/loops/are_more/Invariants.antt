use Rattle.std.proofs.Common.{◌≡◌, drop}
use Rattle.std.specs.Prelude.{nat_lt}
use Rattle.std.specs.List.{list_all}
use Rattle.sq_pipe.proofs.loops.are_more.Given as goal

abbrev pub invariant-loop-count : goal.invariant-loop-count
invariant-loop-count l = record {
  same : list_all (λ n. nat_lt l.children n) (drop l.count-index l.counts)
      ≡ list_all (λ n. nat_lt l.fn.children n) l.fn.counts;
}
