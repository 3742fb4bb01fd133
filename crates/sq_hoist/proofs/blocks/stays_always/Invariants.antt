use Rattle.std.proofs.Common.{◌≡◌, drop}
use Rattle.std.specs.List.{list_all}
use Rattle.sq_hoist.specs.Loops.{stays, cut}
use Rattle.sq_hoist.proofs.blocks.stays_always.Given as goal

abbrev pub invariant-loop-size : goal.invariant-loop-size
invariant-loop-size l = record {
  same : list_all (stays l.i) (cut (drop l.size-index l.times) l.rest)
      ≡ list_all (stays l.fn.i) (cut l.fn.times l.fn.rows);
}
