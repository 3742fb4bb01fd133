use Rattle.std.proofs.Common.{◌≡◌, ◌+◌, ◌++◌, drop, map}
use Rattle.sq_forms.specs.Stmts as spec
use Rattle.sq_forms.proofs.tally.+tallies.Given as goal

abbrev pub invariant-push_tallies-loop-s : goal.invariant-push_tallies-loop-s
invariant-push_tallies-loop-s l = record {
  maps : l.maps ++ spec.maps_of (map spec.portion (drop l.s-index l.list)) ≡ l.fn.maps ++ spec.maps_of (map spec.portion l.list);
  calls : l.calls + spec.calls_of (map spec.portion (drop l.s-index l.list)) ≡ spec.calls_of (map spec.portion l.list);
  inside : l.inside + spec.inside_of (map spec.portion (drop l.s-index l.list)) ≡ spec.inside_of (map spec.portion l.list);
}
