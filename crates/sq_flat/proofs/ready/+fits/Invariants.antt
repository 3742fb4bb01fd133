use Rattle.std.proofs.Common.{◌≡◌, drop}
use Rattle.sq_flat.specs.Ready.{rows_in}
use Rattle.sq_flat.specs.Checked as spec
use Rattle.sq_flat.proofs.ready.+fits.Given as goal

abbrev pub invariant-statements_fit-loop-s : goal.invariant-statements_fit-loop-s
invariant-statements_fit-loop-s l = spec.rows_fit l.forms l.views (rows_in (drop l.s-index l.list)) ≡ spec.rows_fit l.forms l.views (rows_in l.list)
