use Rattle.std.proofs.Common.{◌≡◌, ◌==◌, drop}
use Rattle.std.specs.List.{list_all}
use Rattle.sq_hoist.proofs.nest.have_form.Given as goal

abbrev pub invariant-loop-row : goal.invariant-loop-row
invariant-loop-row l = record {
  same : list_all (λ q. q.form == l.form) (drop l.row-index l.rows) ≡ list_all (λ q. q.form == l.fn.form) l.fn.rows;
}
