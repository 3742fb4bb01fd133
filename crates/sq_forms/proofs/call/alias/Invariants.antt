use Rattle.std.proofs.Common.{◌≡◌, [], take, drop}
use Rattle.sq_forms.specs.Calls as spec
use Rattle.sq_forms.proofs.call.alias.Given as goal

abbrev pub invariant-loop-i : goal.invariant-loop-i
invariant-loop-i l = spec.alias_from l.i (take l.i l.list) (drop l.i l.list) ≡ spec.alias_from 0 [] l.list
