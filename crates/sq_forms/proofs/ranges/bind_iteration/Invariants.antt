use Rattle.std.proofs.Common.{◌≡◌, ◌≤◌, drop, length}
use Rattle.sq_forms.specs.Stmts as spec
use Rattle.sq_forms.proofs.ranges.bind_iteration.Given as goal

abbrev pub invariant-loop-i : goal.invariant-loop-i
invariant-loop-i l = record {
  within : l.i ≤ length l.ranges;
  turned : spec.turned_from (drop l.i l.ranges) l.i l.bounds l.t l.fn.numbers ≡ record { numbers = l.numbers; left = l.left };
}

abbrev pub decreases-loop-i : goal.decreases-loop-i
decreases-loop-i l = l.i
