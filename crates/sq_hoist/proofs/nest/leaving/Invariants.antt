use Rattle.std.proofs.Common.{◌≡◌, ◌++◌, drop}
use Rattle.sq_hoist.specs.Loops.{leaving, cut}
use Rattle.sq_hoist.proofs.nest.leaving.Given as goal

abbrev pub invariant-loop-i : goal.invariant-loop-i
invariant-loop-i l = record {
  same : l.out ++ leaving l.inside (cut l.times l.rows) l.i (drop l.i l.leaves)
      ≡ leaving l.fn.inside (cut l.fn.times l.fn.rows) 0 l.fn.leaves;
}
