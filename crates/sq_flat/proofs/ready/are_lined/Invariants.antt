use Rattle.std.proofs.Common.{◌≡◌, drop}
use Rattle.sq_flat.specs.Checked as spec
use Rattle.sq_flat.proofs.ready.are_lined.Given as goal

abbrev pub invariant-loop-view : goal.invariant-loop-view
invariant-loop-view l = spec.are_lined l.end (drop l.view-index l.views) ≡ spec.are_lined 0 l.views
