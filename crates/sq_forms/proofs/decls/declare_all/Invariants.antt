use Rattle.std.proofs.Common.{◌≡◌, drop}
use Rattle.sq_forms.specs.Decls as spec
use Rattle.sq_forms.proofs.decls.declare_all.Given as goal

abbrev pub invariant-loop-d : goal.invariant-loop-d
invariant-loop-d l = spec.all_declared l.settings.list.now (spec.scope_of l.fn.scope) l.list ≡ spec.all_declared l.settings.list.now (spec.scope_of l.scope) (drop l.d-index l.list)
