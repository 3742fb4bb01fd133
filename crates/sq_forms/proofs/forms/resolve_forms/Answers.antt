use Rattle.std.proofs.Common.{◌<◌, Err, arith, ap, ◌∙◌}
use Rattle.std.proofs.lemmas.Result.{err_from_is_err_and}
use Rattle.sq_forms.specs.Steps.{most_forms}
use Rattle.sq_forms.specs.Resolving as spec
use Rattle.sq_forms.proofs.AllForms.{forms_limit, started, from_more, from_exit}
use Rattle.sq_forms.proofs.forms.resolve_forms.Goals as goal

pub loop-k-init : goal.loop-k-init
loop-k-init c = record {
  walked = started c.args.variants.now.list.now c.args.mapping.now c.entry_params-list.result.now c.as_slice.result.now c.in_ok-extents.extents (spec.resolving_of c.in_ok-r.r)
      c.entry_params-list.ensures c.as_slice.ensures c.in_ok-extents.ensures c.in_ok-r.ensures.begun;
  uses = c.in_ok-r.ensures.uses;
}

pub loop-k-preserved : goal.loop-k-preserved
loop-k-preserved c =
    let lt : c.loop-k.k < most_forms = omega (arith, forms_limit) in
    record {
      walked = from_more c.args.variants.now.list.now c.as_slice-instances.result.now c.args.mapping.now.instances c.loop-k.k (spec.resolving_of c.loop-k.r) (spec.resolving_of c.walk_next.new.r) _ lt c.as_slice-instances.ensures
          c.loop-k.invariant.walked c.in_ok-walk_next.ensures.next;
      uses = c.in_ok-walk_next.ensures.uses;
    }

pub returns-in_err-walk_next : goal.returns-in_err-walk_next
returns-in_err-walk_next c =
    let p = err_from_is_err_and c.from_residual-in_err-walk_next.result c.from_residual-in_err-walk_next.ensures.1 in
    let lt : c.loop-k.k < most_forms = omega (arith, forms_limit) in
    from_exit c.from_residual-in_err-walk_next.result c.walk_next.result c.in_err-walk_next.field-0.0 c.args.variants.now.list.now c.as_slice-instances.result.now c.args.mapping.now.instances c.loop-k.k (spec.resolving_of c.loop-k.r) (spec.resolving_of c.walk_next.new.r) _ lt c.as_slice-instances.ensures
    (p.1 ∙ ap Err p.2) c.in_err-walk_next.was c.loop-k.invariant.walked c.walk_next.ensures.next
