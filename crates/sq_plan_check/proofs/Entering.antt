-- The events of a whole plan are those of its tree.
use Rattle.std.proofs.Common.{◌≡◌, ℕ, ◌+◌, ◌<◌, List, ◌++◌, Some, None, refl, sym, ap, ap₂, ◌∙◌, subst, arith}
use Rattle.sq_ir.specs.Tree.{Tree, Skip, Act, Stuck, Seq, Par, Within, waiting}
use Rattle.sq_ir.specs.Events.{Leaves}
use Rattle.sq_ir.specs.Plans.{IsWellFormed}
use Rattle.sq_ir.specs.declared.plan.Plan.{Plan}
use Rattle.sq_check_laws.specs.Whole.{whole_of, trimmed}
use Rattle.sq_check_laws.specs.Flaws.{most_events}
use Rattle.sq_check_laws.proofs.Trimming.{trees_are_trimmed}
use Rattle.sq_sched.specs.Shapes.{written}
use Rattle.sq_sched.specs.Forms.{plan_form}
use Rattle.sq_sched.proofs.Wholes.{plan-is}
use Rattle.sq_plan_check.specs.Walked.{few, numbered, seen_entries}
use Rattle.sq_plan_check.specs.Entered.{AreOfPlan}
use Rattle.sq_plan_check.specs.declared.entry.Entry.{Entry}
use Rattle.sq_plan_check.proofs.Counting.{few-some, few-none, waiting-seq, waiting-par, waiting-within}
use Rattle.sq_plan_check.proofs.Walking.{numbered-seq, numbered-par, numbered-within, items-numbered}

module _ {E S : Type 0} where
  waiting-trimmed : (t : Tree E S) → waiting (trimmed t) ≡ waiting t
  waiting-trimmed Skip = refl
  waiting-trimmed (Act e) = refl
  waiting-trimmed (Stuck e) = refl
  waiting-trimmed (Seq a b) = waiting-seq (trimmed a) (trimmed b) ∙ ap₂ (λ x y. x + y) (waiting-trimmed a) (waiting-trimmed b)
  waiting-trimmed (Par a b) = waiting-par (trimmed a) (trimmed b) ∙ ap₂ (λ x y. x + y) (waiting-trimmed a) (waiting-trimmed b)
  waiting-trimmed (Within s a) = waiting-within s (trimmed a) ∙ waiting-trimmed a

  numbered-trimmed : (n : ℕ) (t : Tree E S) → numbered n (trimmed t) ≡ numbered n t
  numbered-trimmed n Skip = refl
  numbered-trimmed n (Act e) = refl
  numbered-trimmed n (Stuck e) = refl
  numbered-trimmed n (Seq a b) =
      numbered-seq n (trimmed a) (trimmed b)
      ∙ ap₂ (λ x y. x ++ y) (numbered-trimmed n a) (ap (λ k. numbered (n + k) (trimmed b)) (waiting-trimmed a) ∙ numbered-trimmed (n + waiting a) b)
  numbered-trimmed n (Par a b) =
      numbered-par n (trimmed a) (trimmed b)
      ∙ ap₂ (λ x y. x ++ y) (ap (λ k. numbered (n + k) (trimmed a)) (waiting-trimmed b) ∙ numbered-trimmed (n + waiting b) a) (numbered-trimmed n b)
  numbered-trimmed n (Within s a) = numbered-within n s (trimmed a) ∙ numbered-trimmed n a

module _ {C : Type 0} (plan : Plan) (need : (leaves : Leaves C) × IsWellFormed leaves plan) where
  is : written (plan_form plan) ≡ trimmed (whole_of plan)
  is = plan-is need.0 plan need.1 ∙ sym (trees_are_trimmed plan)

  weight-is : waiting (written (plan_form plan)) ≡ waiting (whole_of plan)
  weight-is = ap waiting is ∙ waiting-trimmed (whole_of plan)

  pub too_many : None ≡ few (waiting (written (plan_form plan))) → AreOfPlan plan None
  too_many h = subst (λ n. most_events < n) weight-is (few-none (waiting (written (plan_form plan))) (sym h))

  pub entered : (n : ℕ) (es : List Entry) → Some n ≡ few (waiting (written (plan_form plan))) → seen_entries es ≡ numbered 0 (written (plan_form plan)) → AreOfPlan plan (Some es)
  entered n es h e =
      let r = few-some (waiting (written (plan_form plan))) n (sym h) in
      let l = r.1 in
      let w = weight-is in
      ((λ many. absurd (omega (arith, l, w, many))), e ∙ ap (numbered 0) is ∙ numbered-trimmed 0 (whole_of plan) ∙ items-numbered (whole_of plan))
