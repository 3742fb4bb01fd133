use Rattle.std.proofs.Common.{ℕ, List, Err, refl, sym, ap, ◌∙◌, subst}
use Rattle.std.specs.Prelude.{nat_lt}
use Rattle.sq_text.specs.declared.code.Code.TheVariants.{LimitEvents}
use Rattle.sq_text.specs.Answers.{Answers}
use Rattle.sq_ir.specs.DraftLeaves.{leaves_of}
use Rattle.sq_sched.specs.Words.{root}
use Rattle.sq_planfile.specs.Left.{whole}
use Rattle.sq_planfile.specs.Written.{left_by}
use Rattle.sq_planfile.specs.Words.{reading, number}
use Rattle.sq_planfile.specs.Limits.{most_events, no_place, TextFault}
use Rattle.sq_planfile.proofs.Refusing.{term_is, too_many, few_enough}
use Rattle.sq_planfile.proofs.write.plan_text.Goals as goal

pub returns-then-has_too_many_events-clause-answers : goal.returns-then-has_too_many_events-clause-answers
returns-then-has_too_many_events-clause-answers c =
    let f = c.args.f.now in
    subst (λ s. Answers {A = List ℕ} (TextFault f) (Err s)) (sym c.refused.ensures)
    (too_many f (leaves_of f.plan.draft) c.requires (no_place LimitEvents) refl
    (ap (λ p. nat_lt most_events (number (left_by (reading p) p.draft.term (root p)))) (sym c.plan-plan.ensures) ∙ sym c.has_too_many_events.ensures ∙ c.if-has_too_many_events.true))

pub text_within-requires : goal.text_within-requires
text_within-requires c =
    let f = c.args.f.now in
    c.whole.ensures ∙ ap whole (c.in_ok-left.ensures ∙ ap (λ p. left_by (reading p) p.draft.term (root p)) c.plan-plan.ensures) ∙ term_is f (leaves_of f.plan.draft) c.requires

pub returns-clause-answers : goal.returns-clause-answers
returns-clause-answers c =
    let f = c.args.f.now in
    few_enough f (leaves_of f.plan.draft) c.requires c.text_within.result
    (ap (λ p. nat_lt most_events (number (left_by (reading p) p.draft.term (root p)))) (sym c.plan-plan.ensures) ∙ sym c.has_too_many_events.ensures ∙ c.if-has_too_many_events.false) c.text_within.ensures.answers
