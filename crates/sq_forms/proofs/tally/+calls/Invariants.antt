use Rattle.std.proofs.Common.{◌≡◌, ◌+◌, drop, map}
use Rattle.sq_forms.specs.Stmts as spec
use Rattle.sq_forms.proofs.tally.+calls.Given as goal

abbrev pub invariant-calls_in_all-loop-s : goal.invariant-calls_in_all-loop-s
invariant-calls_in_all-loop-s l = l.count + spec.calls_of (map spec.portion (drop l.s-index l.list)) ≡ spec.calls_of (map spec.portion l.list)
