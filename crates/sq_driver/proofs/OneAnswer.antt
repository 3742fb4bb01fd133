-- What the files say is one status.
use Rattle.std.specs.Prelude.{Bool, true, false}
use Rattle.std.proofs.Common.{◌≡◌, ◌⊎◌, inl, inr, ⊎_elim, ℕ, List, [], ◌∷◌, ◌++◌, Option, Some, None, refl, sym, ◌∙◌, ap, subst}
use Rattle.sq_port.specs.Ports.{Content}
use Rattle.sq_text.specs.declared.code.Phase.{Phase}
use Rattle.sq_text.specs.declared.code.Phase.TheVariants.{Program, Types, Machine, Mapping, Resolve, Race, Capacity, Plan, Cost, Order, Input}
use Rattle.sq_text.specs.declared.fault.Fault.{Fault}
use Rattle.sq_words.specs.declared.words.Kind.{Kind}
use Rattle.sq_words.specs.declared.words.Kind.TheVariants.{Check, Fmt, Plan as PlanKind, Eval, Run, Demo, Compile, Tune, Span, Exec}
use Rattle.sq_words.specs.Words.{Role, program, mapping, machine, input, order, cost, plan_file, Command}
use Rattle.sq_driver.specs.Phases.{phases, role_of, file_for, file_of, Inputs, own_inputs, text_or, inputs_of, plan_role, is_filed, varies}
use Rattle.sq_driver.specs.Costing.{IsFirstOfCost}
use Rattle.sq_driver.specs.Faults.{IsFirstOfMappings, IsFirstOfPlan, IsFirstOfData, IsFirstOf}
use Rattle.sq_driver.specs.Meaning.{Passed, AllPassed, Reached, Answer, done, refused, trapped, usage, file_fault, no_memory, absent, IsCause}
use Rattle.sq_driver.specs.Outcome.{status_for}
use Rattle.sq_driver.specs.Top.{IsSaid}

abbrev IsIn : Phase → List Phase → Type 0
IsIn phase [] = ⊥
IsIn phase (first ∷ rest) = (phase ≡ first) ⊎ IsIn phase rest

in_split : (before after : List Phase) (phase : Phase) → IsIn phase (before ++ phase ∷ after)
in_split [] after phase = inl refl
in_split (first ∷ before) after phase = inr (in_split before after phase)

-- of two places in a list one is the first
first_of_two : (b b' a a' : List Phase) (p q : Phase) → b ++ p ∷ a ≡ b' ++ q ∷ a' → (p ≡ q) ⊎ (IsIn p b' ⊎ IsIn q b)
first_of_two [] [] a a' p q is = inl (cc)
first_of_two [] (x ∷ b') a a' p q is = inr (inl (inl (cc)))
first_of_two (x ∷ b) [] a a' p q is = inr (inr (inl (let here : x ≡ q = cc in sym here)))
first_of_two (x ∷ b) (x' ∷ b') a a' p q is =
    let rest : b ++ p ∷ a ≡ b' ++ q ∷ a' = cc in
    ⊎_elim (λ same. inl same) (λ other. inr (⊎_elim (λ one. inl (inr one)) (λ two. inr (inr two)) other))
    (first_of_two b b' a a' p q rest)

module _ (command : Command) (c : Content) where
  passed_in : (list : List Phase) (phase : Phase) → AllPassed command c list → IsIn phase list → Passed command c phase
  passed_in [] phase all is = absurd is
  passed_in (first ∷ rest) phase all (inl here) = subst (λ (p : Phase). Passed command c p) (sym here) all.0
  passed_in (first ∷ rest) phase all (inr later) = passed_in rest phase all.1 later

  -- a phase that is reached and stops isn't passed, so not every phase is
  reached_passed : (phase : Phase) → Reached command c phase → AllPassed command c (phases command.kind)
      → Passed command c phase
  reached_passed phase reached all = passed_in (phases command.kind) phase all
      (subst (λ (l : List Phase). IsIn phase l) (sym reached.split) (in_split reached.before reached.after phase))

  absent_not_passed : (phase : Phase) (name : List ℕ) → file_of command phase ≡ Some name → c name ≡ None
      → Passed command c phase → ⊥
  absent_not_passed phase name file none passed = let there = passed.there name file in let same : c name ≡ Some
      there.0 = there.1 in cc

  -- of two phases that are reached and stop neither is before the other
  one_stop : (p q : Phase) → Reached command c p → Reached command c q → ¬ Passed command c p → ¬ Passed command c q
      → p ≡ q
  one_stop p q at_p at_q stops_p stops_q =
      ⊎_elim (λ same. same)
      (λ other. absurd (⊎_elim (λ before. stops_p (passed_in at_q.before p at_q.passed before))
      (λ before. stops_q (passed_in at_p.before q at_p.passed before)) other))
      (first_of_two at_p.before at_q.before at_p.after at_q.after p q (sym at_p.split ∙ at_q.split))

no_name : {A : Type 0} (x : A) → None ≡ Some x → ⊥
no_name x is = cc

some_same : {A : Type 0} (x y : A) → Some x ≡ Some y → x ≡ y
some_same x y is = cc

-- a phase's file is what the file of its role holds
role_absent : (c : Content) (command : Command) (role : Option Role) (name : List ℕ)
    → file_for command.files role ≡ Some name → c name ≡ None → (its : Role) × (role ≡ Some its)
    × (inputs_of c command its ≡ None)
role_absent c command None name file none = absurd (no_name name file)
role_absent c command (Some its) name file none =
    (its, refl, ap (text_or (own_inputs command.kind command.way its) c) file ∙ none)

-- a text that a fault speaks of is there
not_there : (inputs : Inputs) (its role : Role) (text : List ℕ) → Some its ≡ Some role → inputs its ≡ Some text
    → inputs role ≡ None → ⊥
not_there inputs its role text same there none = no_name text
    (sym none ∙ (ap inputs (sym (some_same its role same)) ∙ there))

-- a phase with a fault has its file
mapping_there : (varied : Bool) (inputs : Inputs) (its : Fault) (role : Role) → IsFirstOfMappings varied inputs its
    → Some mapping ≡ Some role → inputs role ≡ None → ⊥
mapping_there false inputs its role is reads none = not_there inputs mapping role is.first.0 reads is.first.1 none
mapping_there true inputs its role is reads none = not_there inputs mapping role is.first.0 reads is.first.1 none

cost_there : (inputs : Inputs) (its : Fault) (role : Role) → IsFirstOfCost inputs its → Some cost ≡ Some role
    → inputs role ≡ None → ⊥
cost_there inputs its role (inl is) reads none = not_there inputs cost role is.first.0 reads is.first.1 none
cost_there inputs its role (inr is) reads none =
    not_there inputs cost role is.costed.costs_are.0 reads is.costed.costs_are.1 none

plan_there : (kind : Kind) (inputs : Inputs) (its : Fault) (role : Role) → IsFirstOfPlan kind inputs its
    → plan_role kind ≡ Some role → inputs role ≡ None → ⊥
plan_there Exec inputs its role is reads none = not_there inputs plan_file role is.0 reads is.1 none
plan_there Check inputs its role is reads none = no_name role reads
plan_there Fmt inputs its role is reads none = no_name role reads
plan_there PlanKind inputs its role is reads none = no_name role reads
plan_there Eval inputs its role is reads none = no_name role reads
plan_there Run inputs its role is reads none = no_name role reads
plan_there Demo inputs its role is reads none = no_name role reads
plan_there Compile inputs its role is reads none = no_name role reads
plan_there Tune inputs its role is reads none = no_name role reads
plan_there Span inputs its role is reads none = no_name role reads

data_there : (filed : Bool) (inputs : Inputs) (its : Fault) (role : Role) → IsFirstOfData filed inputs its
    → Some input ≡ Some role → inputs role ≡ None → ⊥
data_there false inputs its role is reads none = not_there inputs input role is.bytes reads is.there none
data_there true inputs its role is reads none = not_there inputs input role is.unfit.bytes reads is.unfit.there none

fault_there : (kind : Kind) (phase : Phase) (inputs : Inputs) (its : Fault) (role : Role)
    → IsFirstOf kind phase inputs its → role_of kind phase ≡ Some role → inputs role ≡ None → ⊥
fault_there kind Program inputs its role is reads none = not_there inputs program role is.0 reads is.1 none
fault_there kind Types inputs its role is reads none = no_name role reads
fault_there kind Machine inputs its role is reads none = not_there inputs machine role is.0 reads is.1 none
fault_there kind Mapping inputs its role is reads none = mapping_there (varies kind) inputs its role is reads none
fault_there kind Resolve inputs its role is reads none = no_name role reads
fault_there kind Race inputs its role is reads none = no_name role reads
fault_there kind Capacity inputs its role is reads none = no_name role reads
fault_there kind Plan inputs its role is reads none = plan_there kind inputs its role is reads none
fault_there kind Cost inputs its role is reads none = cost_there inputs its role is reads none
fault_there kind Order inputs its role is reads none = not_there inputs order role is.0 reads is.1 none
fault_there kind Input inputs its role is reads none = data_there (is_filed kind) inputs its role is reads none

refused_or_absent : (command : Command) (c : Content) (p q : Phase) (its : Fault) (name : List ℕ)
    → Reached command c p → IsFirstOf command.kind p (inputs_of c command) its → file_of command q ≡ Some name
    → Reached command c q → c name ≡ None → ⊥
refused_or_absent command c p q its name at_p is file at_q none =
    let same = one_stop command c p q at_p at_q (λ passed. passed.no_fault its is)
    (λ passed. absent_not_passed command c q name file none passed) in
    let gone = role_absent c command (role_of command.kind q) name file none in
    fault_there command.kind q (inputs_of c command) its gone.0
    (subst (λ (k : Phase). IsFirstOf command.kind k (inputs_of c command) its) same is) gone.1 gone.2

-- what stops a command is no end of all its phases
module _ (command : Command) (c : Content) where
  refused_or_all : (phase : Phase) (its : Fault) → Reached command c phase
      → IsFirstOf command.kind phase (inputs_of c command) its
      → AllPassed command c (phases command.kind) → ⊥
  refused_or_all phase its reached is all = (reached_passed command c phase reached all).no_fault its is

  absent_or_all : (phase : Phase) (name : List ℕ) → file_of command phase ≡ Some name → Reached command c phase
      → c name ≡ None → AllPassed command c (phases command.kind) → ⊥
  absent_or_all phase name file reached none all = absent_not_passed command c phase name file none
      (reached_passed command c phase reached all)

-- two answers that the files say have one status
pub one_status : (command : Command) (c : Content) (answer answer' : Answer) → IsSaid answer → IsSaid answer'
    → IsCause command c answer → IsCause command c answer' → status_for answer ≡ status_for answer'
one_status command c (done out trace) (done out' trace') a_said b_said a b = refl
one_status command c (done out trace) (refused phase' refusal') a_said b_said a b = absurd
    (refused_or_all command c phase' refusal' b.0 b.1 a.0)
one_status command c (done out trace) (trapped trap' trace') a_said b_said a b = absurd (a.2 trap' b.1)
one_status command c (done out trace) usage a_said b_said a b = absurd b_said
one_status command c (done out trace) (file_fault phase' name') a_said b_said a b = absurd b_said
one_status command c (done out trace) no_memory a_said b_said a b = absurd b_said
one_status command c (done out trace) (absent phase' name') a_said b_said a b = absurd
    (absent_or_all command c phase' name' b.0 b.1 b.2 a.0)
one_status command c (refused phase refusal) (done out' trace') a_said b_said a b = absurd
    (refused_or_all command c phase refusal a.0 a.1 b.0)
one_status command c (refused phase refusal) (refused phase' refusal') a_said b_said a b = refl
one_status command c (refused phase refusal) (trapped trap' trace') a_said b_said a b = absurd
    (refused_or_all command c phase refusal a.0 a.1 b.0)
one_status command c (refused phase refusal) usage a_said b_said a b = absurd b_said
one_status command c (refused phase refusal) (file_fault phase' name') a_said b_said a b = absurd b_said
one_status command c (refused phase refusal) no_memory a_said b_said a b = absurd b_said
one_status command c (refused phase refusal) (absent phase' name') a_said b_said a b = absurd
    (refused_or_absent command c phase phase' refusal name' a.0 a.1 b.0 b.1 b.2)
one_status command c (trapped trap trace) (done out' trace') a_said b_said a b = absurd (b.2 trap a.1)
one_status command c (trapped trap trace) (refused phase' refusal') a_said b_said a b = absurd
    (refused_or_all command c phase' refusal' b.0 b.1 a.0)
one_status command c (trapped trap trace) (trapped trap' trace') a_said b_said a b = refl
one_status command c (trapped trap trace) usage a_said b_said a b = absurd b_said
one_status command c (trapped trap trace) (file_fault phase' name') a_said b_said a b = absurd b_said
one_status command c (trapped trap trace) no_memory a_said b_said a b = absurd b_said
one_status command c (trapped trap trace) (absent phase' name') a_said b_said a b = absurd
    (absent_or_all command c phase' name' b.0 b.1 b.2 a.0)
one_status command c usage answer a_said b_said a b = absurd a_said
one_status command c (file_fault phase name) answer a_said b_said a b = absurd a_said
one_status command c no_memory answer a_said b_said a b = absurd a_said
one_status command c (absent phase name) (done out' trace') a_said b_said a b = absurd
    (absent_or_all command c phase name a.0 a.1 a.2 b.0)
one_status command c (absent phase name) (refused phase' refusal') a_said b_said a b = absurd
    (refused_or_absent command c phase' phase refusal' name b.0 b.1 a.0 a.1 a.2)
one_status command c (absent phase name) (trapped trap' trace') a_said b_said a b = absurd
    (absent_or_all command c phase name a.0 a.1 a.2 b.0)
one_status command c (absent phase name) usage a_said b_said a b = absurd b_said
one_status command c (absent phase name) (file_fault phase' name') a_said b_said a b = absurd b_said
one_status command c (absent phase name) no_memory a_said b_said a b = absurd b_said
one_status command c (absent phase name) (absent phase' name') a_said b_said a b = refl
