-- Which of the three faults of a text that would be written is first.
use Rattle.std.proofs.Common.{◌≡◌, ℕ, ◌<◌, ◌≤◌, Bool, true, false, inl, inr, Some, None, Result, Ok, Err, List, [], ◌++◌, length, append-nil, refl, sym, ap, ◌∙◌, subst, arith}
use Rattle.std.specs.Prelude.{nat_lt}
use Rattle.std.proofs.lemmas.Bool.{ltb-true, ltb-false}
use Rattle.sq_text.specs.declared.fault.Fault.{Fault}
use Rattle.sq_text.specs.declared.fault.Stop.{Stop}
use Rattle.sq_text.specs.declared.fault.Stop.TheVariants.{Refused, NoMemory}
use Rattle.sq_text.specs.declared.code.Code.TheVariants.{LimitEvents, TooDeep, LimitFile}
use Rattle.sq_text.specs.Faults.{fault_place, fault_number, IsFirst}
use Rattle.sq_text.specs.First.{AtOrBefore, InTurn}
use Rattle.sq_text.specs.Answers.{Answers}
use Rattle.sq_ir.specs.Events.{Leaves}
use Rattle.sq_ir.specs.Plans.{IsWellFormed}
use Rattle.sq_sched.specs.Words.{root}
use Rattle.sq_lexer.specs.Faults.{most_plan_bytes}
use Rattle.sq_plantext.specs.declared.text.TheConstants.{PLAN_LEVELS}
use Rattle.sq_plantext.specs.Grammar.{most_levels}
use Rattle.sq_plantext.specs.Layout.{laid_out}
use Rattle.sq_planfile.specs.Left.{whole}
use Rattle.sq_planfile.specs.File.{PlanFile}
use Rattle.sq_planfile.specs.Written.{left_by, written}
use Rattle.sq_planfile.specs.Limits.{most_events, size, depth, no_place, EventsFault, DepthFault, LengthFault, TextFault}
use Rattle.sq_planfile.specs.Words.{reading, number, few}
use Rattle.sq_planfile.proofs.Numbers.{number_whole}
use Rattle.sq_planfile.proofs.Worded.{worded}

itself : (x g : Fault) → g ≡ x → AtOrBefore fault_place fault_number x g
itself x g e = inr (ap fault_place (sym e), let n : fault_number x ≡ fault_number g = ap fault_number (sym e) in omega arith)

-- a fault that is the only one that holds
only : (P : Fault → Type 0) (x : Fault) → P x → ((g : Fault) → P g → g ≡ x) → IsFirst P (Some x)
only P x p h = (p, λ g q. itself x g (h g q))

-- of two groups, where nothing of the first holds
module _ (P Q : Fault → Type 0) (none : (g : Fault) → P g → ⊥) where
  second_none : IsFirst Q None → IsFirst (InTurn P Q) None
  second_none h g (inl p) = none g p
  second_none h g (inr q) = h g q.1

  second_some : (x : Fault) → IsFirst Q (Some x) → IsFirst (InTurn P Q) (Some x)
  second_some x h = (inr (none, h.0), by)
    where
      by : (g : Fault) → InTurn P Q g → AtOrBefore fault_place fault_number x g
      by g (inl p) = absurd (none g p)
      by g (inr q) = h.1 g q.1

  pub answers_second : {A : Type 0} (result : Result A Stop) → Answers Q result → Answers (InTurn P Q) result
  answers_second (Ok a) h = second_none h
  answers_second (Err (Refused x)) h = second_some x h
  answers_second (Err NoMemory) h = tt

-- of two groups, where this one of the first holds
first_some : (P Q : Fault → Type 0) (x : Fault) → P x → ((g : Fault) → P g → g ≡ x) → IsFirst (InTurn P Q) (Some x)
first_some P Q x p h = (inl p, by)
  where
    by : (g : Fault) → InTurn P Q g → AtOrBefore fault_place fault_number x g
    by g (inl q) = itself x g (h g q)
    by g (inr q) = absurd (q.0 x p)

module _ (f : PlanFile) where
  -- ---- levels and bytes

  pub too_deep : (x : Fault) → x ≡ no_place TooDeep → nat_lt PLAN_LEVELS (depth (written f).term) ≡ true → IsFirst (InTurn (DepthFault f) (LengthFault f)) (Some x)
  unfolding most_levels
  too_deep x e h = first_some (DepthFault f) (LengthFault f) x (record { deep = ltb-true PLAN_LEVELS (depth (written f).term) h; is = e }) (λ g d. d.is ∙ sym e)

  shallow : nat_lt PLAN_LEVELS (depth (written f).term) ≡ false → (g : Fault) → DepthFault f g → ⊥
  unfolding most_levels
  shallow h g d = let l = ltb-false PLAN_LEVELS (depth (written f).term) h in let m = d.deep in absurd (omega (arith, l, m))

  pub too_long : (x : Fault) (text : List ℕ) → x ≡ no_place LimitFile → nat_lt PLAN_LEVELS (depth (written f).term) ≡ false → text ≡ laid_out (written f) → 16777216 < length text
      → IsFirst (InTurn (DepthFault f) (LengthFault f)) (Some x)
  unfolding most_plan_bytes
  too_long x text e h t long = second_some (DepthFault f) (LengthFault f) (shallow h) x
      (only (LengthFault f) x (record { long = subst (λ t. 16777216 < length t) t long; is = e }) (λ g d. d.is ∙ sym e))

  pub fits : (text : List ℕ) → nat_lt PLAN_LEVELS (depth (written f).term) ≡ false → text ≡ laid_out (written f) → length text ≤ 16777216
      → IsFirst (InTurn (DepthFault f) (LengthFault f)) None
  unfolding most_plan_bytes
  fits text h t short = second_none (DepthFault f) (LengthFault f) (shallow h) (λ g d.
      let m = d.long in
      let l = subst (λ t. length t ≤ 16777216) t short in
      absurd (omega (arith, l, m)))

  -- ---- events

  module _ {C : Type 0} (leaves : Leaves C) (need : IsWellFormed leaves f.plan) where
    -- the term that is written
    pub term_is : whole (left_by (reading f.plan) f.plan.draft.term (root f.plan)) ≡ (written f).term
    term_is = ap whole (worded f.plan leaves need)

    events_are : number (left_by (reading f.plan) f.plan.draft.term (root f.plan)) ≡ size (written f).term
    events_are = sym (number_whole (left_by (reading f.plan) f.plan.draft.term (root f.plan))) ∙ ap size term_is

    pub too_many : (x : Fault) → x ≡ no_place LimitEvents → nat_lt most_events (number (left_by (reading f.plan) f.plan.draft.term (root f.plan))) ≡ true → IsFirst (TextFault f) (Some x)
    too_many x e h =
        let l = ltb-true most_events (number (left_by (reading f.plan) f.plan.draft.term (root f.plan))) h in
        first_some (EventsFault f) (InTurn (DepthFault f) (LengthFault f)) x (record { many = subst (λ n. most_events < n) events_are l; is = e }) (λ g d. d.is ∙ sym e)

    pub few_enough : {A : Type 0} (result : Result A Stop) → nat_lt most_events (number (left_by (reading f.plan) f.plan.draft.term (root f.plan))) ≡ false
        → Answers (InTurn (DepthFault f) (LengthFault f)) result → Answers (TextFault f) result
    few_enough result h = answers_second (EventsFault f) (InTurn (DepthFault f) (LengthFault f)) (λ g d.
        let l = ltb-false most_events (number (left_by (reading f.plan) f.plan.draft.term (root f.plan))) h in
        let e = events_are in
        let m = d.many in
        absurd (omega (arith, l, e, m))) result

-- ---- counted few

pub few_many : (n : ℕ) → nat_lt most_events (few n) ≡ nat_lt most_events n
few_many n = by (nat_lt most_events (few n)) (nat_lt most_events n) refl refl
  where
    by : (u v : Bool) → nat_lt most_events (few n) ≡ u → nat_lt most_events n ≡ v → u ≡ v
    by true true p q = refl
    by false false p q = refl
    by true false p q = let l = ltb-true most_events (few n) p in let h = ltb-false most_events n q in absurd (omega (arith, l, h))
    by false true p q = let l = ltb-true most_events n q in let h = ltb-false most_events (few n) p in absurd (omega (arith, l, h))

-- a text that is put from its beginning
pub put_first : (out text : List ℕ) → out ++ [] ≡ [] ++ text → out ≡ text
put_first out text e = sym (append-nil out) ∙ e
