use Rattle.std.proofs.Common.{◌≡◌, ◌++◌, drop}
use Rattle.sq_forms.specs.Calls as spec
use Rattle.sq_forms.proofs.call.flags.Given as goal

abbrev pub invariant-loop-k : goal.invariant-loop-k
invariant-loop-k l = l.flags ++ spec.flags_from l.is_same_level l.list l.k (drop l.k l.list) ≡ spec.flags l.is_same_level l.list
