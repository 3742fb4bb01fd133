use Rattle.std.proofs.Common.{◌≡◌, drop}
use Rattle.sq_flat.specs.Checked as spec
use Rattle.sq_flat.proofs.ready.rows_fit.Given as goal

abbrev pub invariant-loop-r : goal.invariant-loop-r
invariant-loop-r l = spec.rows_fit l.forms l.views (drop l.r-index l.rows) ≡ spec.rows_fit l.forms l.views l.rows
