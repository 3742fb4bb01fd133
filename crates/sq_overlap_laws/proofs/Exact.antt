-- A form is marked at a node exactly where it runs there.
use Rattle.std.proofs.Common.{◌≡◌, ◌⊎◌, inl, inr, ℕ, zero, suc, ◌+◌, ◌*◌, ◌<◌, ◌≤◌, ◌==◌, Bool, true, false, List, []}
use Rattle.std.proofs.Common.{◌∷◌, ◌++◌, length, get_or, slice_get, Option, Some, None, refl, sym, ap, ap₂, subst}
use Rattle.std.proofs.Common.{◌∙◌, arith, if◌then◌else◌}
use Rattle.std.proofs.lemmas.Bool.Decides.{nat_tests}
use Rattle.std.proofs.lemmas.List.{length-append}
use Rattle.sq_text.specs.declared.spread.SpreadRule.{SpreadRule}
use Rattle.sq_ast.specs.declared.program.Variant.{Variant}
use Rattle.sq_machfile.specs.declared.node.Node.{Node}
use Rattle.sq_forms.specs.Mappings.declared.mapping.Instance.{Instance}
use Rattle.sq_forms.specs.declared.form.Caller.{Caller}
use Rattle.sq_forms.specs.declared.form.Form.{Form}
use Rattle.sq_spec.proofs.FormLaws.AnswerHold.{forms_callers_first}
use Rattle.sq_spec.proofs.FormLaws.RanHold.{as_many_forms}
use Rattle.sq_spec.specs.declared.body.FormBody.{FormBody}
use Rattle.sq_spec.specs.declared.resolved.Resolved.{Resolved}
use Rattle.sq_spec_laws.specs.Needs.{Reached, IsCall, StandsAt, entry, beside, below}
use Rattle.sq_pass_laws.specs.Hoist.Choices.{body_at}
use Rattle.sq_pass_laws.specs.Pipe.Runs.{Marks, is_marked, mark_below, unmarked, level_at, flags_at, body_lands, has_flag}
use Rattle.sq_pass_laws.specs.Pipe.Runs.{marks_called, marks_by, marks_from, marks_of}
use Rattle.sq_pass_laws.specs.Term.Stands.{Each, none, more}
use Rattle.sq_pass_laws.specs.Term.Stands as stands
use Rattle.sq_pass_laws.specs.Term.Terms.{body_in}
use Rattle.sq_plan_good.specs.DraftLaws.Choosing.{Walked}
use Rattle.sq_plan_good.specs.Homes.Begun.{Begun, calls_of, child_in}
use Rattle.sq_plan_good.specs.Homes.Chosen.Forms.{instance_at, instance_by, level_by, rule_by}
use Rattle.sq_plan_good.specs.Homes.Chosen.Forms.{bodies_of}
use Rattle.sq_plan_good.specs.Listed.{IsListed}
use Rattle.sq_plan_good.proofs.DraftLaws.Forms.{resolving}
use Rattle.sq_plan_good.proofs.DraftLaws.Programs.{bodies_are_tables}
use Rattle.sq_plan_good.proofs.ListedForms.{calls_are_listed}
use Rattle.sq_overlap_laws.specs.Marks.{Runs, IsCalled, MarksAreRuns}
use Rattle.sq_overlap_laws.proofs.Called.{each_at, each_back, forms_are_called, instance_there}
use Rattle.sq_overlap_laws.proofs.Landed.{Goes, body_goes}
use Rattle.sq_overlap_laws.proofs.Made.{made, child_same, child_within}
use Rattle.sq_overlap_laws.proofs.Marked.{called, all_marked}
use Rattle.sq_overlap_laws.proofs.Set.{was_set, none_set, IsNoted, is_noted, one_flag, IsBelow, was_below}

some_same : {A : Type 0} (x y : A) → Some x ≡ Some y → x ≡ y
some_same x y h = cc h

-- ---- lists

past_or : {A : Type 0} (xs : List A) (i : ℕ) (d : A) → length xs ≤ i → get_or xs i d ≡ d
past_or [] i d h = refl
past_or (x ∷ xs) zero d h = absurd (omega (arith, h))
past_or (x ∷ xs) (suc i) d h = past_or xs i d (omega (arith, h))

-- ---- numbers

same_number : (m n : ℕ) → (m == n) ≡ true → m ≡ n
same_number m n h = grind (arith, nat_tests, h)

other_number : (m n : ℕ) → (m == n) ≡ false → m ≡ n → ⊥
other_number m n h e = absurd (grind (arith, nat_tests, e))

-- ---- where there is no form there are no marks

no_marks_from : (r : Resolved) (k : ℕ) (fs : List Form) (known : List Marks) (j : ℕ) → length known ≡ k
    → slice_get fs j ≡ None → get_or (marks_from r k fs known) (k + j) [] ≡ []
no_marks_from r k [] known j many e = past_or known (k + j) [] (omega (arith, many))
no_marks_from r k (f ∷ fs) known zero many e = absurd (cc e)
no_marks_from r k (f ∷ fs) known (suc j) many e =
    let z : k + suc j ≡ k + 1 + j = omega arith in
    let x = marks_by r k f.level f.caller known in
    let long = length-append known (x ∷ []) in
    ap (λ (n : ℕ). get_or (marks_from r (k + 1) fs (known ++ x ∷ [])) n []) z
    ∙ no_marks_from r (k + 1) fs (known ++ x ∷ []) j (omega (arith, many, long)) e

no_marks : (r : Resolved) (k : ℕ) → slice_get r.forms k ≡ None → get_or (marks_of r) k [] ≡ []
no_marks r k e =
    let z : k ≡ 0 + k = omega arith in
    ap (λ (n : ℕ). get_or (marks_of r) n []) z ∙ no_marks_from r 0 r.forms [] k refl e

-- ---- what is marked runs

module _ (r : Resolved) (w : Walked r) where
  abbrev tasks : List Variant
  tasks = r.typed.now.tasks

  abbrev places : List Instance
  places = r.mapping.now.instances

  abbrev nodes : List Node
  nodes = r.machine.now.nodes

  abbrev marks : ℕ → Marks
  marks k = get_or (marks_of r) k []

  -- the entry
  entry_at_root : (f : Form) → slice_get r.forms 0 ≡ Some f → (node : ℕ) → is_marked (marks 0) node ≡ true → node ≡ 0
  entry_at_root f there node marked =
      let m = made r 0 f there in
      by f.caller refl m.known (ap (λ (ms : Marks). is_marked ms node) (sym m.is) ∙ marked)
    where
      root : (node ≡ 0) ⊎ (get_or (unmarked nodes) node false ≡ true) → node ≡ 0
      root (inl e) = e
      root (inr e) = absurd (none_set (length nodes) node e)

      by : (o : Option Caller) → f.caller ≡ o → (known : List Marks)
          → is_marked (marks_by r 0 f.level o known) node ≡ true → node ≡ 0
      by None e known h = root (was_set (unmarked nodes) 0 node h)
      by (Some c) e known h =
          let z = forms_callers_first tasks r.mapping.now (resolving r) w.through 0 f c there e in absurd (omega (arith, z))

  -- what its caller's flags say
  module _ (k : ℕ) (f : Form) (there : slice_get r.forms k ≡ Some f) (q : IsCalled r k f) where
    level_is : level_at r q.caller ≡ q.from.level
    level_is = ap level_by q.call.caller_there

    abbrev rule : SpreadRule
    rule = rule_by (instance_at r q.caller)

    own_instance : (i : Instance) × (slice_get places q.from.instance ≡ Some i)
    own_instance = instance_there r w q.caller q.from q.call.caller_there

    rule_is : rule_by (instance_at r q.caller) ≡ own_instance.0.spread
    rule_is = ap (λ (o : Option Form). rule_by (instance_by places o)) q.call.caller_there ∙ ap rule_by own_instance.1

    -- a call of the caller reaches the form, and runs at this child
    record Lands (children child : ℕ) : Type 0 where
      reached : Reached
      call : IsCall r.typed.now.tasks r.mapping.now.instances r.forms q.caller k q.from f reached
      begun : Begun
      round : begun.turn ≡ reached.turn
      is : child ≡ child_in (rule_by (instance_at r q.caller)) children begun.turn
      level : f.level ≡ stands.below begun.lower q.from.level

    lands_by : (children child : ℕ) → child < children
        → (n : IsNoted children (body_lands (rule_by (instance_at r q.caller)) children (body_at r q.caller).body)
        (k * children + child)) → Lands children child
    lands_by children child few n =
        let g = each_at (Goes rule children) (body_goes rule children (body_at r q.caller).body) n.index (n.form, n.child)
        n.among in
        let within = child_within rule children g.0.turn (omega (arith, few)) g.2.turn in
        let child_is = g.2.child in
        let same = one_flag children k n.form child n.child few (omega (arith, within, child_is)) n.is in
        let d = g.0 in
        let begun_there : slice_get (calls_of (body_in (bodies_of r) q.caller).body) n.index ≡ Some d =
        ap (λ (b : FormBody). slice_get (calls_of b.body) n.index) (bodies_are_tables as_many_forms r q.caller) ∙ g.1 in
        let x = each_back (IsListed r.forms q.caller q.from) (calls_are_listed r w q.caller q.from q.call.caller_there)
        n.index d begun_there in
        let li = x.2 in
        let number : d.row.form ≡ k = sym (same.0 ∙ g.2.form) in
        let callee : li.to ≡ f = some_same li.to f (sym li.there ∙ (ap (slice_get r.forms) number ∙ there)) in
        record {
          reached = x.0;
          call = record {
            caller_there = q.call.caller_there;
            callee_there = there;
            index = n.index;
            among = x.1;
            from_call = sym (ap (λ (g : Form). g.caller) callee) ∙ li.caller;
            extents = sym (ap (λ (g : Form). g.extents) callee) ∙ li.extents;
            in_place = sym (ap (λ (g : Form). g.in_place) callee) ∙ li.in_place;
          };
          begun = d;
          round = li.round;
          is = same.1 ∙ g.2.child;
          level = sym (ap (λ (g : Form). g.level) callee) ∙ li.level;
        }

    lands_there : (children child : ℕ) → child < children → has_flag (flags_at r q.caller children) children k child ≡ true
        → Lands children child
    lands_there children child few flag =
        lands_by children child few
        (is_noted (length r.forms) children (body_lands rule children (body_at r q.caller).body) (k * children + child) flag)

    lower_level : (v : Bool) → f.level ≡ stands.below v q.from.level → (level_at r q.caller == f.level) ≡ false
        → f.level ≡ suc q.from.level
    lower_level true e other = e
    lower_level false e other = absurd (other_number (level_at r q.caller) f.level other (level_is ∙ sym e))

    -- a child of a node at which the caller runs
    runs_below : (node : ℕ) → (level_at r q.caller == f.level) ≡ false
        → (b : IsBelow (flags_at r q.caller) k (marks q.caller) 0 nodes node) → Runs r q.caller b.index → Runs r k node
    runs_below node other b runs =
        let la = lands_there b.parent.children b.child b.few b.flag in
        let goes : StandsAt places nodes q.from la.reached b.index node = record {
          instance = own_instance.0;
          runs = own_instance.1;
          parent = b.parent;
          there = b.there;
          is = b.is ∙ ap (λ (n : ℕ). b.parent.first_child + n) (la.is
              ∙ ap₂ (λ s t. child_in s b.parent.children t) rule_is la.round
              ∙ child_same own_instance.0.spread b.parent la.reached.turn);
        } in
        below q.from f la.reached la.call (lower_level la.begun.lower la.level other) runs goes

    runs_called : (node : ℕ) → ((at : ℕ) → is_marked (marks q.caller) at ≡ true → Runs r q.caller at)
        → is_marked (marks_called r k f.level q.caller (marks q.caller)) node ≡ true → Runs r k node
    runs_called node before marked = by (level_at r q.caller == f.level) refl marked
      where
        unset : (is_marked (unmarked nodes) node ≡ true) ⊎ IsBelow (flags_at r q.caller) k (marks q.caller) 0 nodes node
            → (level_at r q.caller == f.level) ≡ false → Runs r k node
        unset (inl e) other = absurd (none_set (length nodes) node e)
        unset (inr b) other =
            let z : 0 + b.index ≡ b.index = omega arith in
            runs_below node other b (before b.index (ap (is_marked (marks q.caller)) (sym z) ∙ b.marked))

        by : (v : Bool) → (level_at r q.caller == f.level) ≡ v
            → is_marked (if v then marks q.caller else mark_below (flags_at r q.caller) k (marks q.caller) 0 nodes
            (unmarked nodes)) node ≡ true → Runs r k node
        by true same h =
            let level : f.level ≡ q.from.level = sym (same_number (level_at r q.caller) f.level same) ∙ level_is in
            beside q.from f q.reached q.call level (before node h)
        by false other h = unset (was_below (flags_at r q.caller) k (marks q.caller) 0 nodes (unmarked nodes) node h) other

  at_form : (k : ℕ) (f : Form) → slice_get r.forms k ≡ Some f
      → ((c y : ℕ) → c < k → is_marked (marks c) y ≡ true → Runs r c y) → (node : ℕ) → is_marked (marks k) node ≡ true
      → Runs r k node
  at_form zero f there before node h = subst (Runs r 0) (sym (entry_at_root f there node h)) entry
  at_form (suc k) f there before node h =
      let q = forms_are_called r w (suc k) f there (omega arith) in
      let own : marks (suc k) ≡ marks_called r (suc k) f.level q.caller (marks q.caller) =
      called r w (suc k) f (record { form = q.caller; call = q.reached.call }) there q.call.from_call in
      runs_called (suc k) f there q node (λ y g. before q.caller y q.earlier g)
      (subst (λ (ms : Marks). is_marked ms node ≡ true) own h)

  runs_by : (k node : ℕ) → is_marked (marks k) node ≡ true
      → ((c y : ℕ) → c < k → is_marked (marks c) y ≡ true → Runs r c y) → (o : Option Form) → slice_get r.forms k ≡ o
      → Runs r k node
  runs_by k node h before None e =
      let none : false ≡ true = ap (λ (ms : Marks). is_marked ms node) (sym (no_marks r k e)) ∙ h in absurd (cc none)
  runs_by k node h before (Some f) e = at_form k f e before node h

  runs_marked : (n k node : ℕ) → k < n → is_marked (marks k) node ≡ true → Runs r k node
  runs_marked zero k node less h = absurd (omega (arith, less))
  runs_marked (suc n) k node less h =
      runs_by k node h (λ c y l g. runs_marked n c y (omega (arith, l, less)) g) (slice_get r.forms k) refl

pub marks_are_runs : MarksAreRuns
marks_are_runs r w limits k node = record {
  there = λ h. runs_marked r w (suc k) k node (omega arith) h;
  back = λ h. all_marked r w limits k node h;
}
