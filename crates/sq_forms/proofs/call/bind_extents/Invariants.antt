use Rattle.std.proofs.Common.{◌≡◌, drop}
use Rattle.sq_forms.specs.Calls as spec
use Rattle.sq_forms.proofs.call.bind_extents.Given as goal

abbrev pub invariant-loop-i : goal.invariant-loop-i
invariant-loop-i l = spec.bind_from l.sizes (drop l.i l.extents) l.i l.dims ≡ spec.bind_from l.fn.sizes l.extents 0 l.dims
