use Rattle.std.proofs.Common.{◌≡◌, drop}
use Rattle.sq_pipe.specs.Runs as spec
use Rattle.sq_pipe.proofs.marks.marks_of.Given as goal

abbrev pub invariant-loop-form : goal.invariant-loop-form
invariant-loop-form l = record {
  marks : spec.marks_from l.r l.form (drop l.form l.r.forms) l.known ≡ spec.marks_of l.r;
  flags : spec.AreFlags (spec.flags_at l.r l.reach.caller) l.reach.made;
}
