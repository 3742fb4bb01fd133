use Rattle.std.proofs.Common.{sym, ap, ◌∙◌, subst}
use Rattle.sq_blocks.specs.declared.chop.Chop.TheVariants.{Irregular}
use Rattle.sq_forms.specs.Faults.{Value, Leaves}
use Rattle.sq_forms.specs.Decls as spec
use Rattle.sq_forms.proofs.decls.declare.Goals as goal

pub returns-in_ok-ends-in-Ichop : goal.returns-in_ok-ends-in-Ichop
returns-in_ok-ends-in-Ichop c =
    let s = spec.scope_of c.args.scope.now in
    subst (λ (v : Value spec.Scope). Leaves c.chop_listed.result v (spec.scope_of c.chop_listed.new.scope))
    ((λ i. spec.with_chop s c.in-Ichop.place c.in-Ichop.name (λ extents. Irregular extents (c.in_ok-starts-in-Ichop.ensures i) (c.in_ok-ends-in-Ichop.ensures i)) (spec.array_of s c.in-Ichop.array.name))
    ∙ sym (ap (spec.after_decl c.args.settings.now.list.now s) c.in-Ichop.is))
    c.chop_listed.ensures
