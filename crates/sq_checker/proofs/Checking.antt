-- The first fault of a plan file: of its text, or of its plan.
use Rattle.std.proofs.Common.{◌≡◌, ℕ, true, inl, inr, List, Option, Some, None, Err, refl, sym, ◌∙◌, ap, subst, arith}
use Rattle.sq_text.specs.declared.fault.Fault.{Fault}
use Rattle.sq_text.specs.declared.fault.Stop.{Stop}
use Rattle.sq_text.specs.declared.fault.Stop.TheVariants.{Refused, NoMemory}
use Rattle.sq_text.specs.Answers.{Answers}
use Rattle.sq_text.specs.First.{AtOrBefore}
use Rattle.sq_text.specs.Faults.{IsFirst, fault_place, fault_number}
use Rattle.sq_leaf.specs.declared.trap.Trap.{Trap}
use Rattle.sq_ir.specs.DraftLeaves.{leaves_of}
use Rattle.sq_ir.specs.Plans.{IsWellFormed, IsGood}
use Rattle.sq_ir.specs.declared.plan.Plan.{Plan}
use Rattle.sq_plantext.specs.declared.text.PlanText.{PlanText}
use Rattle.sq_planfile.specs.File.{PlanFile}
use Rattle.sq_planfile.specs.Files.{draft_of, plan_of}
use Rattle.sq_planfile.specs.Sound.{IsSound}
use Rattle.sq_planfile.specs.Faults.{PlanFault, Means}
use Rattle.sq_check_laws.specs.First.{IsFirstFlaw}
use Rattle.sq_check_laws.specs.PlanLaws.{FirstFlawsAreOne, FlawlessAreGood}
use Rattle.sq_check_laws.specs.declared.flaw.Flaw.{Flaw}
use Rattle.sq_checker.specs.Flaws.{FlawFault, IsRefusedFor, flaw_fault}
use Rattle.sq_rooms.specs.Terms.{is_flat}
use Rattle.sq_checker.proofs.FlatFiles.{plans_of_files_are_flat}
use Rattle.sq_checker.specs.Laws.{IsFlawed, FileFault}

some_same : {A : Type 0} (x y : A) → Some x ≡ Some y → x ≡ y
some_same x y is = cc

none_some : {A B : Type 0} (x : A) → ◌≡◌ {A = Option A} None (Some x) → B
none_some x is = absurd (let no : ◌≡◌ {A = Option _} None (Some x) = is in cc)

at_itself : (f g : Fault) → g ≡ f → AtOrBefore fault_place fault_number f g
at_itself f g same = subst (λ (x : Fault). AtOrBefore fault_place fault_number f x) (sym same) (inr (refl, omega arith))

-- ---- of its plan

-- the same of another spelling of the plan
pub flaw_of_plan : (p q : Plan) → q ≡ p → (found : Option Flaw) → IsFirstFlaw (leaves_of q.draft) q found
    → IsFirstFlaw (leaves_of p.draft) p found
flaw_of_plan p q same found first = subst (λ (x : Plan). IsFirstFlaw (leaves_of x.draft) x found) same first

module _ (law : FirstFlawsAreOne Trap) (p : Plan) where
  flaw_first : (x : Flaw) (f : Fault) → IsFirstFlaw (leaves_of p.draft) p (Some x) → f ≡ flaw_fault x
      → IsFirst (FlawFault p) (Some f)
  flaw_first x f first is = (
    record { flaw = x; first = first; is = is },
    λ g that. at_itself f g
        (that.is ∙ (ap flaw_fault (some_same that.flaw x
        (law (leaves_of p.draft) p (Some that.flaw) (Some x) that.first first)) ∙ sym is)),
  )

  pub no_flaw : (found : Option Flaw) → IsFirstFlaw (leaves_of p.draft) p found → found ≡ None
      → IsFirst (FlawFault p) None
  no_flaw found first none = λ f that. none_some that.flaw
      (sym none ∙ law (leaves_of p.draft) p found (Some that.flaw) first that.first)

  pub refused_first : (x : Flaw) (found : Option Flaw) → IsFirstFlaw (leaves_of p.draft) p found → found ≡ Some x
      → (stop : Stop) → IsRefusedFor x stop → Answers {A = Unit {0}} (FlawFault p) (Err stop)
  refused_first x found first is (Refused its) refused = flaw_first x its
      (subst (λ (o : Option Flaw). IsFirstFlaw (leaves_of p.draft) p o) is first) refused
  refused_first x found first is NoMemory refused = tt

-- without a flaw it is good
pub none_is_good : FlawlessAreGood Trap → (p : Plan) → IsWellFormed (leaves_of p.draft) p → (found : Option Flaw)
    → IsFirstFlaw (leaves_of p.draft) p found → found ≡ None → IsGood (leaves_of p.draft) p
none_is_good law p formed found first is =
    let none : IsFirstFlaw (leaves_of p.draft) p None = subst
    (λ (o : Option Flaw). IsFirstFlaw (leaves_of p.draft) p o) is first in
    law (leaves_of p.draft) p formed none.1 none.2

-- ---- of its text

text_refused : (bytes : List ℕ) (f : Fault) → IsFirst (PlanFault bytes) (Some f)
    → IsFirst (FileFault bytes) (Some f)
text_refused bytes f first = (
  inl first.0,
  λ g holds. elim holds [ inl fault ↦ first.1 g fault | inr flaw ↦ absurd (flaw.0 f first.0) ],
)

pub text_ends : (bytes : List ℕ) (stop : Stop) → Answers {A = PlanFile} (PlanFault bytes) (Err stop)
    → Answers {A = PlanFile} (FileFault bytes) (Err stop)
text_ends bytes (Refused its) first = text_refused bytes its first
text_ends bytes NoMemory first = tt

module _ (bytes : List ℕ) (file : PlanFile) (none : IsFirst (PlanFault bytes) None) (means : Means bytes file)
    (only : (g : PlanFile) → Means bytes g → file ≡ g) where
  same_flaw : (g : Fault) → IsFlawed bytes g → FlawFault file.plan g
  same_flaw g flawed = subst (λ (x : PlanFile). FlawFault x.plan g) (sym (only flawed.file flawed.means)) flawed.flaw

  plan_refused : (f : Fault) → IsFirst (FlawFault file.plan) (Some f) → IsFirst (FileFault bytes) (Some f)
  plan_refused f first = (
    inr (none, record { file = file; means = means; flaw = first.0 }),
    λ g holds. elim holds [
      | inl fault ↦ absurd (none g fault)
      | inr flaw ↦ first.1 g (same_flaw g flaw.1)
    ],
  )

  pub plan_ends : (stop : Stop) → Answers {A = Unit {0}} (FlawFault file.plan) (Err stop)
      → Answers {A = PlanFile} (FileFault bytes) (Err stop)
  plan_ends (Refused its) first = plan_refused its first
  plan_ends NoMemory first = tt

  pub accepted : IsFirst (FlawFault file.plan) None → IsFirst (FileFault bytes) None
  accepted first = λ g holds. elim holds [
    | inl fault ↦ none g fault
    | inr flaw ↦ first g (same_flaw g flaw.1)
  ]

-- the plan of a file that a text stands for is well formed
pub means_well_formed : ((x : PlanText) → IsSound x → IsWellFormed (leaves_of (draft_of x)) (plan_of x))
    → (bytes : List ℕ) (f : PlanFile) → Means bytes f → IsWellFormed (leaves_of f.plan.draft) f.plan
means_well_formed law bytes f means =
    subst (λ (g : PlanFile). IsWellFormed (leaves_of g.plan.draft) g.plan) (sym means.is) (law means.lines means.sound)

-- and its term has neither loops nor choices
pub means_flat : (bytes : List ℕ) (f : PlanFile) → Means bytes f → is_flat f.plan.draft.term ≡ true
means_flat bytes f means = ap (λ (g : PlanFile). is_flat g.plan.draft.term) means.is ∙ plans_of_files_are_flat means.lines
