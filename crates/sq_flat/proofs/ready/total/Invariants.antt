use Rattle.std.proofs.Common.{◌≡◌, ◌+◌, true, drop, map}
use Rattle.sq_leaf.specs.Views.{shape_of}
use Rattle.sq_flat.specs.Memory.{total}
use Rattle.sq_flat.specs.Checked as spec
use Rattle.sq_flat.proofs.ready.total.Given as goal

abbrev pub invariant-loop-view : goal.invariant-loop-view
invariant-loop-view l = record {
  sum : l.end + total (map shape_of (drop l.view-index l.views)) ≡ total (map shape_of l.views);
  lined : spec.are_lined l.end (drop l.view-index l.views) ≡ true;
}
