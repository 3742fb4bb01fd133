use Rattle.std.proofs.Common.{slice_get, ap, ◌∙◌, arith}
use Rattle.sq_areas.proofs.Laying.{settled-step, settled-many}
use Rattle.sq_areas.proofs.view.settle.Goals as goal

pub joined-run-requires : goal.joined-run-requires
joined-run-requires c = c.in-Some.ensures.1 c.remove-step.result (ap (λ l. slice_get l c.in-Some.i) c.as_slice.ensures ∙ c.remove-step.ensures.item)

pub loop-i-preserved : goal.loop-i-preserved
loop-i-preserved c =
    let inv = c.loop-i.invariant in
    let old = c.loop-i.steps in
    let new = c.remove-step.new.self in
    let d = c.remove-step.result in
    let j = c.in-Some.ensures.1 d (ap (λ l. slice_get l c.in-Some.i) c.as_slice.ensures ∙ c.remove-step.ensures.item) in
    record {
      alike = settled-step c.args.run c.args.steps.now c.loop-i.run c.joined-run.result old new c.in-Some.i d inv.alike c.remove-step.ensures.item j c.joined-run.ensures c.remove-step.ensures.rest;
      many = λ h. settled-many old new c.in-Some.i c.remove-step.ensures.rest (inv.many h);
      more = let a = inv.more in let b = c.joined-run.ensures in omega (arith, a, b);
    }
