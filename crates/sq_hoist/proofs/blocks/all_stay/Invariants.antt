use Rattle.std.proofs.Common.{◌≡◌, drop}
use Rattle.std.specs.List.{list_all}
use Rattle.sq_hoist.specs.Loops.{stays_in}
use Rattle.sq_hoist.proofs.blocks.all_stay.Given as goal

abbrev pub invariant-loop-row : goal.invariant-loop-row
invariant-loop-row l = record {
  same : list_all (stays_in l.i l.x) (drop l.row-index l.rows) ≡ list_all (stays_in l.fn.i l.fn.x) l.fn.rows;
}
