use Rattle.std.proofs.Common.{◌≡◌, drop}
use Rattle.std.specs.List.{list_all}
use Rattle.sq_hoist.specs.Loops.{cut}
use Rattle.sq_pipe.specs.Candidates as spec
use Rattle.sq_pipe.proofs.ahead.are_all_ahead.Given as goal

abbrev pub invariant-loop-count : goal.invariant-loop-count
invariant-loop-count l = record {
  same : list_all (spec.are_ahead l.leaves) (cut (drop l.count-index l.counts) l.rest)
      ≡ list_all (spec.are_ahead l.leaves) (cut l.fn.counts l.fn.rows);
}
