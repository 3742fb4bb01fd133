use Rattle.std.proofs.Common.{◌≡◌, [], drop}
use Rattle.sq_forms.specs.Calls as spec
use Rattle.sq_forms.proofs.call.shape.Given as goal

abbrev pub invariant-loop-i : goal.invariant-loop-i
invariant-loop-i l = spec.shape_from l.i l.sizes (drop l.i l.params) l.list ≡ spec.shape_from 0 [] l.params l.list
