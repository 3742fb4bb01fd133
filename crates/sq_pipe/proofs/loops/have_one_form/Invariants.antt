use Rattle.std.proofs.Common.{◌≡◌, ◌==◌, drop}
use Rattle.std.specs.List.{list_all}
use Rattle.sq_pipe.proofs.loops.have_one_form.Given as goal

abbrev pub invariant-loop-row : goal.invariant-loop-row
invariant-loop-row l = record {
  same : list_all (λ q. q.form == l.first.form) (drop l.row-index l.more)
      ≡ list_all (λ q. q.form == l.initial.first.form) l.initial.more;
}
