use Rattle.std.proofs.Common.{◌≡◌, ◌++◌, drop}
use Rattle.sq_forms.specs.Calls as spec
use Rattle.sq_forms.proofs.call.push_uses.Given as goal

abbrev pub invariant-loop-arg : goal.invariant-loop-arg
invariant-loop-arg l = l.uses ++ spec.uses_from (spec.site_of l.site) l.callee l.arg (drop l.arg l.list) ≡ l.fn.uses ++ spec.uses_from (spec.site_of l.site) l.callee 0 l.list
