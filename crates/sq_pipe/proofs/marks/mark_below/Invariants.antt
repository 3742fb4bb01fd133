use Rattle.std.proofs.Common.{◌≡◌, drop}
use Rattle.sq_pipe.specs.Runs as spec
use Rattle.sq_pipe.proofs.marks.mark_below.Given as goal

abbrev pub invariant-loop-n : goal.invariant-loop-n
invariant-loop-n l = record {
  marks : spec.mark_below (spec.flags_at l.r l.caller) l.form l.known l.n (drop l.n l.r.machine.now.nodes) l.marks
      ≡ spec.mark_below (spec.flags_at l.r l.caller) l.form l.known 0 l.r.machine.now.nodes l.fn.marks;
  flags : spec.AreFlags (spec.flags_at l.r l.caller) l.made;
}
