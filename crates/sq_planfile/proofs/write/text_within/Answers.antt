use Rattle.std.proofs.Common.{ℕ, ◌<◌, ◌≤◌, List, Err, length, refl, sym, ap, ◌∙◌, subst}
use Rattle.std.specs.Prelude.{nat_lt}
use Rattle.sq_text.specs.declared.code.Code.TheVariants.{TooDeep, LimitFile}
use Rattle.sq_text.specs.Answers.{Answers}
use Rattle.sq_text.specs.First.{InTurn}
use Rattle.sq_plantext.specs.declared.text.TheConstants.{PLAN_LEVELS}
use Rattle.sq_planfile.specs.Limits.{depth, no_place, DepthFault, LengthFault}
use Rattle.sq_planfile.proofs.Refusing.{too_deep, too_long, fits}
use Rattle.sq_planfile.proofs.write.text_within.Goals as goal

pub returns-then-is_deeper-clause-answers : goal.returns-then-is_deeper-clause-answers
returns-then-is_deeper-clause-answers c =
    let f = c.args.f.now in
    subst (λ s. Answers {A = List ℕ} (InTurn (DepthFault f) (LengthFault f)) (Err s)) (sym c.refused.ensures)
    (too_deep f (no_place TooDeep) refl (ap (λ t. nat_lt PLAN_LEVELS (depth t)) (sym c.requires) ∙ sym c.is_deeper.ensures ∙ c.if-is_deeper.true))

pub returns-then-as_slice-gt-PLAN_BYTES-clause-answers : goal.returns-then-as_slice-gt-PLAN_BYTES-clause-answers
returns-then-as_slice-gt-PLAN_BYTES-clause-answers c =
    let f = c.args.f.now in
    subst (λ s. Answers {A = List ℕ} (InTurn (DepthFault f) (LengthFault f)) (Err s)) (sym c.refused-then-as_slice-gt-PLAN_BYTES.ensures)
    (too_long f (no_place LimitFile) c.in_ok-text.text refl (ap (λ t. nat_lt PLAN_LEVELS (depth t)) (sym c.requires) ∙ sym c.is_deeper.ensures ∙ c.if-is_deeper.false) c.in_ok-text.ensures
    (subst (λ (t : List ℕ). 16777216 < length t) c.as_slice.ensures c.if-as_slice-gt-PLAN_BYTES.true))

pub returns-clause-answers : goal.returns-clause-answers
returns-clause-answers c =
    let f = c.args.f.now in
    fits f c.in_ok-text.text (ap (λ t. nat_lt PLAN_LEVELS (depth t)) (sym c.requires) ∙ sym c.is_deeper.ensures ∙ c.if-is_deeper.false) c.in_ok-text.ensures
    (subst (λ (t : List ℕ). length t ≤ 16777216) c.as_slice.ensures c.if-as_slice-gt-PLAN_BYTES.false)
