use Rattle.std.proofs.Common.{◌≡◌, ◌*◌, ◌≤◌, min, drop}
use Rattle.sq_forms.specs.Stmts as spec
use Rattle.sq_forms.proofs.ranges.times.Given as goal

abbrev pub invariant-loop-i : goal.invariant-loop-i
invariant-loop-i l = record {
  small : l.times ≤ 18446744073709551615;
  so_far : min (l.times * spec.times (drop l.i l.bounds)) 18446744073709551615 ≡ min (spec.times l.bounds) 18446744073709551615;
}
