use Rattle.std.proofs.Common.{sym, ap, ap₂, ◌∙◌, refl, false}
use Rattle.std.proofs.lemmas.List.{take_at}
use Rattle.std.specs.Prelude.{if◌then◌else◌}
use Rattle.sq_ir.specs.Tree.{event_at, rest_at}
use Rattle.sq_sched.specs.Seen.{seen}
use Rattle.sq_sched.specs.Ends.{is_call}
use Rattle.sq_sched.specs.Rests.{left_in}
use Rattle.sq_sched.proofs.Controls.{after_step}
use Rattle.sq_sched.proofs.control.Control.step.Goals as goal

pub returns-clause-event : goal.returns-clause-event
returns-clause-event g c =
    let k = c.args.k in
    sym (ap (λ r. event_at r.left k) c.self.view_is) ∙ sym (ap₂ (λ p fs. event_at (left_in p fs) k) c.deref.ensures c.as_mut_slice.ensures.value)
    ∙ c.perform_in.ensures.told refl

pub returns-clause-left : goal.returns-clause-left
returns-clause-left g c =
    let plan = c.self.inside.plan.value in
    let k = c.args.k in
    let fs = c.perform_in.new.fs in
    let e = seen c.perform_in.new.told in
    let x = left_in c.deref.result.now c.as_mut_slice.result.now in
    let whole = take_at fs _ c.self.inside.frames.len (c.perform_in.auto.fs ∙ c.as_mut_slice.ensures.len) in
    let after = ap (λ p. left_in p fs) (sym c.deref.ensures) ∙ c.perform_in.ensures.left.stands.rest in
    let step = after_step x k e (c.perform_in.ensures.told refl) in
    let before = ap₂ (λ p es. if is_call e then left_in p es else rest_at (left_in p es) k false) c.deref.ensures c.as_mut_slice.ensures.value in
    let now = ap (λ r. if is_call e then r.left else rest_at r.left k false) c.self.view_is in
    ap (left_in plan) whole ∙ after ∙ step ∙ before ∙ now
