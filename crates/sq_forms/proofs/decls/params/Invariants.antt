use Rattle.std.proofs.Common.{◌≡◌, drop}
use Rattle.sq_forms.specs.Decls as spec
use Rattle.sq_forms.proofs.decls.params.Given as goal

abbrev pub invariant-loop-i : goal.invariant-loop-i
invariant-loop-i l = spec.params_from (spec.scope_of l.scope) (drop l.i l.list) l.i l.extents ≡ spec.params_from (spec.scope_of l.fn.scope) l.list 0 l.extents
